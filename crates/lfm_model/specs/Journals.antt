-- What a journal determines: the object after its ops and the replies to them, the seat that took last, the stamps, the entries
-- of each seat, and whether the journal is lawful.
use Rattle.std.specs.Prelude.{◌≡◌, ℕ, ◌+◌, ◌<◌, ◌≤◌, ◌==◌, List, [], ◌∷◌, ◌++◌, Option, Some, None, suc, zero}
use Rattle.std.specs.List.{filter, filter_map}
use Rattle.std.specs.Coded.{×_prop, Unit-prop, le_prop, Coded-set, coded_ℕ, coded_option}
use Rattle.lfm_model.specs.declared.answers.How.{How}
use Rattle.lfm_model.specs.declared.answers.How.TheVariants.{Free, Queued}
use Rattle.lfm_model.specs.declared.journals.What.{What}
use Rattle.lfm_model.specs.declared.journals.What.TheVariants.{Took, Did}
use Rattle.lfm_model.specs.declared.journals.Entry.{Entry}

module _ {O A : Type 0} (after : O → A → O) where
  abbrev pub after_what : O → What A → O
  after_what o (Took h) = o
  after_what o (Did op) = after o op

  -- the object after the ops of these entries
  abbrev pub after_all : O → List (Entry A) → O
  after_all o [] = o
  after_all o (e ∷ es) = after_all (after_what o e.what) es

module _ {O A R : Type 0} (after : O → A → O) (reply : O → A → R) where
  abbrev pub reply_of : O → What A → List R
  reply_of o (Took h) = []
  reply_of o (Did op) = reply o op ∷ []

  -- the replies of the object to the ops of these entries
  abbrev pub replies_of : O → List (Entry A) → List R
  replies_of o [] = []
  replies_of o (e ∷ es) = reply_of o e.what ++ replies_of (after_what after o e.what) es

-- after k queued takes, the next take may be of this form
abbrev pub MayTake : ℕ → How → Type 0
MayTake k Free = Unit {0}
MayTake k (Queued x) = x ≡ k + 1

-- the numbers 1 to n
abbrev pub one_to : ℕ → List ℕ
one_to zero = []
one_to (suc n) = one_to n ++ (n + 1) ∷ []

module _ {A : Type 0} where
  abbrev pub stamp_of : What A → Option ℕ
  stamp_of (Took Free) = None
  stamp_of (Took (Queued x)) = Some x
  stamp_of (Did op) = None

  -- the stamps of the queued takes, in order
  abbrev pub stamps : List (Entry A) → List ℕ
  stamps es = filter_map (λ e. stamp_of e.what) es

  -- the seat that took last, after one more entry
  abbrev pub taker_at : Option ℕ → ℕ → What A → Option ℕ
  taker_at t s (Took h) = Some s
  taker_at t s (Did op) = t

  -- the number of queued takes, after one more entry
  abbrev pub queued_at : ℕ → What A → ℕ
  queued_at k (Took Free) = k
  queued_at k (Took (Queued x)) = k + 1
  queued_at k (Did op) = k

  -- after a take by seat t and k queued takes, seat s may make this entry next
  abbrev pub May : Option ℕ → ℕ → ℕ → What A → Type 0
  May t k s (Took Free) = Unit {0}
  May t k s (Took (Queued x)) = x ≡ k + 1
  May t k s (Did op) = t ≡ Some s

  -- the seat that took last, after these entries
  abbrev pub taker_from : Option ℕ → List (Entry A) → Option ℕ
  taker_from t [] = t
  taker_from t (e ∷ es) = taker_from (taker_at t e.seat e.what) es

  -- the number of queued takes, after these entries
  abbrev pub queued_from : ℕ → List (Entry A) → ℕ
  queued_from k [] = k
  queued_from k (e ∷ es) = queued_from (queued_at k e.what) es

  -- after a take by seat t and k queued takes, these entries may follow in this order
  abbrev pub LawfulFrom : Option ℕ → ℕ → List (Entry A) → Type 0
  LawfulFrom t k [] = Unit {0}
  LawfulFrom t k (e ∷ es) = May t k e.seat e.what × LawfulFrom (taker_at t e.seat e.what) (queued_at k e.what) es

  -- each op is by the seat of the last take before it, and the stamps of the queued takes are 1, 2, 3 and so on
  abbrev pub LawfulJournal : List (Entry A) → Type 0
  LawfulJournal es = LawfulFrom None 0 es

  -- the entries of one seat, in order
  abbrev pub own : ℕ → List (Entry A) → List (Entry A)
  own s es = filter (λ e. e.seat == s) es

  abbrev pub entry : ℕ → What A → Entry A
  entry s w = record { seat = s; what = w }

  -- each entry is by one of the seats 1 to n
  abbrev pub Within : ℕ → List (Entry A) → Type 0
  Within n [] = Unit {0}
  Within n (e ∷ es) = (0 < e.seat) × ((e.seat ≤ n) × Within n es)

  pub Within-prop : (n : ℕ) (es : List (Entry A)) → IsProp (Within n es)
  Within-prop n [] = Unit-prop
  Within-prop n (e ∷ es) = ×_prop le_prop (×_prop le_prop (Within-prop n es))

  May-prop : (t : Option ℕ) (k s : ℕ) (w : What A) → IsProp (May t k s w)
  May-prop t k s (Took Free) = Unit-prop
  May-prop t k s (Took (Queued x)) = Coded-set coded_ℕ x (k + 1)
  May-prop t k s (Did op) = Coded-set (coded_option coded_ℕ) t (Some s)

  pub LawfulJournal-prop : (t : Option ℕ) (k : ℕ) (es : List (Entry A)) → IsProp (LawfulFrom t k es)
  LawfulJournal-prop t k [] = Unit-prop
  LawfulJournal-prop t k (e ∷ es) = ×_prop (May-prop t k e.seat e.what) (LawfulJournal-prop (taker_at t e.seat e.what) (queued_at k e.what) es)

-- the sum of f over the items
abbrev pub total : {A : Type 0} → (A → ℕ) → List A → ℕ
total f [] = 0
total f (x ∷ xs) = f x + total f xs
