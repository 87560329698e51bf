-- The rule holds of a table that has just been opened.
use Rattle.std.specs.Prelude.{true, false}
use Rattle.std.proofs.Common.{◌≡◌, ℕ, zero, suc, ◌*◌, ◌+◌, ◌<◌, ◌≤◌, List, [], ◌∷◌, ◌++◌, map, replicate, sym, refl, ap, ◌∙◌, subst, arith, Option, Some, tests}
use Rattle.std.proofs.lemmas.List.{length-replicate}
use Rattle.std.proofs.lemmas.Bool.{false≢true}
use mathlib.Core.Option.{some, some-injective, some-ne-none}
use lib.ListN.{get_elem?}
use Rattle.lfm_table.specs.Table.{opening}
use Rattle.lfm_words.specs.declared.wakes.Wake.TheVariants.{Quiet}
use Rattle.lfm_words.specs.Words.{link_word, wake_word}
use Rattle.lfm_protocol.specs.declared.limits.Limits.{Limits}
use Rattle.lfm_laws.specs.table.Carried.{carries_value}
use Rattle.lfm_protocol.specs.Core.{Core}
use Rattle.lfm_laws.specs.steady.Ghost.{Ghost}
use Rattle.lfm_protocol.specs.Limits.{are_in_limits, max_seats}
use Rattle.lfm_protocol.specs.Seats.{absent, no_link}
use Rattle.lfm_laws.specs.steady.Steady.{Fits}
use Rattle.lfm_protocol.specs.Step.{start}
use Rattle.lfm_laws.specs.table.Words.{words}
use Rattle.lfm_laws.proofs.steady.Start.{start_steady, few_seats}
use Rattle.lfm_laws.proofs.table.Starts.{start_narrow}
use Rattle.lfm_table.specs.declared.seat_view.View.{View}
use Rattle.lfm_table.specs.declared.rule.Moving.{Moving}
use Rattle.lfm_table.specs.Reach.{Reached}
use Rattle.lfm_table.specs.Actions.{AreInLimits}
use Rattle.lfm_table.specs.Rule.{first_view, Roots, Sits, Held, HeldWithin}
use Rattle.lfm_table.proofs.tables.Actions.{knows_none, stands_first, starts_absent}
use Rattle.lfm_table.proofs.tables.RuleKept.{stays_reached, some_same}
use Rattle.lfm_table.proofs.tables.OneView.{not_both}

map_replicate : {A : Type 0} (f : A → ℕ) (x : A) (n : ℕ) → f x ≡ 0 → map f (replicate n x) ≡ replicate n 0
map_replicate f x zero e = refl
map_replicate f x (suc n) e = λ i. e i ∷ map_replicate f x n e i

replicate_join : (n m : ℕ) → ◌≡◌ {A = List ℕ} (◌++◌ {A = ℕ} (replicate n 0) (replicate m 0)) (replicate (n + m) 0)
replicate_join zero m = ap (λ (k : ℕ). replicate k 0) (let e : m ≡ 0 + m = omega arith in e)
replicate_join (suc n) m = (λ i. 0 ∷ replicate_join n m i) ∙ ap (λ (k : ℕ). replicate k 0) (let e : suc (n + m) ≡ suc n + m = omega arith in e)

four_more : (n : ℕ) → ◌≡◌ {A = List ℕ} (0 ∷ 0 ∷ 0 ∷ 0 ∷ replicate n 0) (replicate (4 + n) 0)
four_more n = ap (λ (k : ℕ). replicate k 0) (let e : suc (suc (suc (suc n))) ≡ 4 + n = omega arith in e)

pub start_words : (l : Limits) → words (start l) ≡ replicate (4 + 2 * l.seats) 0
start_words l =
    (λ i. 0 ∷ 0 ∷ 0 ∷ 0 ∷ (map_replicate link_word no_link l.seats refl i ++ map_replicate wake_word Quiet l.seats refl i))
    ∙ ((λ i. 0 ∷ 0 ∷ 0 ∷ 0 ∷ replicate_join l.seats l.seats i) ∙ (four_more (l.seats + l.seats) ∙ ap (λ (k : ℕ). replicate k 0) (let e : 4 + (l.seats + l.seats) ≡ 4 + 2 * l.seats = omega arith in e)))

none_answered : (c : Core) (g : Ghost) → Fits c g → c.push.stamp ≡ 0 → g.answered ≡ 0
none_answered c g fits e = let a = fits.words.answers in let s = fits.words.stamp in let p = fits.words.parts in omega arith

one_view : {T : Type 0} (k v : View T) (j : ℕ) → get_elem? (k ∷ []) j ≡ some v → (j ≡ 0) × (k ≡ v)
one_view k v zero e = (refl, some-injective k v e)
one_view k v (suc j) e = absurd (some-ne-none v (sym e))

first_last : {T : Type 0} (follows : ℕ → T → T → Type 0) (x l : T) (a b : Option T) (seats j : ℕ) → a ≡ Some x → a ≡ b → b ≡ Some l → Reached follows seats j l x
first_last follows x l a b seats j first same is = let eq : x ≡ l = some_same x l (sym first ∙ (same ∙ is)) in subst (λ u. Reached follows seats j u x) eq (stays_reached follows seats j x)

some_seats : (seats budget : ℕ) → are_in_limits seats budget ≡ true → 0 < seats
some_seats seats budget allowed = search (tests, arith, allowed)

-- the rule holds of the table at the start, whatever is asked of its limits, if the number of seats is within the range
pub starts_within : {T : Type 0} (follows : ℕ → T → T → Type 0) (suits : T → ℕ → Type 0) (Allowed : Limits → Type 0) (l : Limits) (ws : List ℕ) (x : Moving T) → Allowed l → 0 < l.seats → l.seats ≤ max_seats
    → ws ≡ replicate (4 + 2 * l.seats) 0 → x.popped.records ≡ [] → x.popped.room ≡ l.seats → suits x.value 0
    → HeldWithin follows suits Allowed (opening ws (Some x ∷ []) (first_view l x.value))
starts_within {T} follows suits Allowed l ws x allowed some_seat few are none_popped room fit =
    let k : View T = first_view l x.value in
    let st = start_steady l few in
    let long = length-replicate l.seats absent in
    let none_carries : carries_value k.state ≡ false = refl in
    record {
      core = start l;
      ghost_state = st.ghost_state;
      holds_ended = 0;
      fits = st.fits;
      narrow = start_narrow l;
      words_are = are ∙ sym (start_words l);
      deep = refl;
      few = omega (arith, some_seat, long);
      each = λ j v e. let o = one_view k v j e in subst (λ (t : ℕ × View T). Sits (start l) t.0 t.1) (λ i. (sym o.0 i, o.1 i)) (record {
        number = refl;
        limits_are = λ i. record { seats = sym long i; budget = l.budget };
        state = starts_absent l.seats 1;
      });
      later = λ j far. starts_absent l.seats (j + 1);
      home = λ nobody. record {
        value = x;
        here = refl;
        records = none_popped;
        room = room ∙ sym long;
        leads = λ j v w e ok is. first_last follows x.value w k.last v.last v.limits.seats (j + 1) refl (ap (λ (u : View T). u.last) (one_view k v j e).1) is;
        awaits = λ j v w far e is. first_last follows x.value w k.opening v.opening v.limits.seats (j + 1) refl (ap (λ (u : View T). u.opening) (one_view k v 0 e).1) is;
        left = (0, k, refl, refl, (λ none j v e. ap (λ (u : View T). u.last_found) (sym (one_view k v j e).1)), refl);
        fits = subst (λ (n : ℕ). suits x.value n) (sym (none_answered (start l) st.ghost_state st.fits refl)) fit;
      };
      outside = λ j v e one. absurd (false≢true (sym none_carries ∙ (ap (λ (u : View T). carries_value u.state) (one_view k v j e).1 ∙ one)));
      numbered = record {
        within = λ j v e. let q = ap (λ (u : View T). u.ended) (one_view k v j e).1 in omega (arith, q);
        greatest = λ some_ended. absurd (omega (arith, some_ended));
        differ = λ i j u v e f some same. (one_view k u i e).0 ∙ sym (one_view k v j f).0;
        opens = λ u j v e f none. ap (λ (x : View T). x.last) (sym (one_view k v j f).1) ∙ ap (λ (x : View T). x.opening) (one_view k u 0 e).1;
      };
      root = λ v e. subst (Roots (k ∷ [])) (one_view k v 0 e).1 record { user = refl; made = refl; back = refl; kept = λ i g is. absurd (some-ne-none g (sym is)); gone = λ j z at is. absurd (not_both z.role (ap (λ (u : View T). u.role) (sym (one_view k z j at).1)) is) };
      others = λ j v e is. absurd (not_both v.role (ap (λ (u : View T). u.role) (sym (one_view k v j e).1)) is);
      opened = l;
      actions = [];
      run = record {
        allowed = allowed;
        here = refl;
        trails = λ j v e. ap (λ (u : View T). u.trail) (sym (one_view k v j e).1);
        known = λ j v e. let same = sym (one_view k v j e).1 in knows_none l [] (j + 1) v.actions v.trail refl (ap (λ (u : View T). u.trail) same) (ap (λ (u : View T). u.actions) same);
        stands = λ j v e. let same = sym (one_view k v j e).1 in stands_first l (j + 1) v.actions v.state (ap (λ (u : View T). u.actions) same) (ap (λ (u : View T). u.state) same);
        others = λ t out. refl;
      };
    }

pub starts_within_at : {T : Type 0} (follows : ℕ → T → T → Type 0) (suits : T → ℕ → Type 0) (Allowed : Limits → Type 0) (l : Limits) (ws : List ℕ) (x : Moving T) (allowed : Allowed l) (some_seat : 0 < l.seats) (few : l.seats ≤ max_seats)
    (are : ws ≡ replicate (4 + 2 * l.seats) 0) (none_popped : x.popped.records ≡ []) (room : x.popped.room ≡ l.seats) (fit : suits x.value 0)
    → ((starts_within follows suits Allowed l ws x allowed some_seat few are none_popped room fit).opened ≡ l) × ((starts_within follows suits Allowed l ws x allowed some_seat few are none_popped room fit).actions ≡ [])
unfolding starts_within
starts_within_at follows suits Allowed l ws x allowed some_seat few are none_popped room fit = (refl, refl)

-- The table of a mutex

pub starts : {T : Type 0} (follows : ℕ → T → T → Type 0) (suits : T → ℕ → Type 0) (l : Limits) (ws : List ℕ) (x : Moving T) → are_in_limits l.seats l.budget ≡ true → ws ≡ replicate (4 + 2 * l.seats) 0 → x.popped.records ≡ [] → x.popped.room ≡ l.seats → suits x.value 0
    → Held follows suits (opening ws (Some x ∷ []) (first_view l x.value))
starts follows suits l ws x allowed = starts_within follows suits AreInLimits l ws x allowed (some_seats l.seats l.budget allowed) (few_seats l.seats l.budget allowed)

pub starts_at : {T : Type 0} (follows : ℕ → T → T → Type 0) (suits : T → ℕ → Type 0) (l : Limits) (ws : List ℕ) (x : Moving T) (allowed : are_in_limits l.seats l.budget ≡ true) (are : ws ≡ replicate (4 + 2 * l.seats) 0)
    (none_popped : x.popped.records ≡ []) (room : x.popped.room ≡ l.seats) (fit : suits x.value 0)
    → ((starts follows suits l ws x allowed are none_popped room fit).opened ≡ l) × ((starts follows suits l ws x allowed are none_popped room fit).actions ≡ [])
unfolding starts
starts_at follows suits l ws x allowed = starts_within_at follows suits AreInLimits l ws x allowed (some_seats l.seats l.budget allowed) (few_seats l.seats l.budget allowed)

pub limit_facts : (seats budget : ℕ) → are_in_limits seats budget ≡ true → (0 < seats) × (seats ≤ max_seats)
limit_facts seats budget allowed = (some_seats seats budget allowed, few_seats seats budget allowed)
