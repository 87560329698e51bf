-- The invariant about the records that the wakes of a run have pushed, in addition to that about claims.
use Rattle.std.proofs.Common.{◌≡◌, ◌≢◌, ℕ, zero, suc, Bool, ◌+◌, ◌<◌, ◌≤◌, Some, List, [], ◌∷◌, ◌++◌, length, get_or, refl, sym, ap, ◌∙◌, subst, inl, inr, arith, length-append}
use Rattle.std.proofs.lemmas.Bool.{cases_eq, cases_lt}
use Rattle.std.proofs.lemmas.List.{get_or_append_left, get_or_push}
use Rattle.std.proofs.lemmas.List.Elements.{All-append, Contains-append_left, Contains-append_right}
use Rattle.std.specs.Prelude.{All, AllPairs, Contains}
use Rattle.lfm_condvar_laws.specs.Condvars.{Waiter, sending, CondvarCore, point_of}
use Rattle.lfm_condvar_laws.proofs.Invariant.{CondvarGhost, claims_told}
use Rattle.lfm_condvar_laws.proofs.LockMoves.{SeatMoves}
use Rattle.lfm_condvar_laws.proofs.Tickets.{length-waiters, same_waiter, waiter_with}
use Rattle.lfm_condvar_laws.proofs.points.PushPoints.{to_push}

abbrev pub Before : Waiter → Waiter → Type 0
Before first second = first.ticket < second.ticket

-- A wake sends this waiter, which it claimed last. If it may still push a record for it, the records pushed so far have lower
-- tickets
pub record SendFits (k : CondvarCore) (g : CondvarGhost) (pushes : ℕ → List Waiter) (s v : ℕ) (oldest : Waiter) : Type 0 where
  pub last : oldest.ticket ≡ g.claimed v
  pub told : Contains (claims_told g v) oldest
  pub fresh : (t : ℕ) → to_push (point_of k s) ≡ Some t → (t ≡ oldest.seat) × All (λ x. x.ticket < oldest.ticket) (pushes v)

-- what is true of the records pushed so far, by condvar
pub record PushFits (k : CondvarCore) (g : CondvarGhost) (pushes : ℕ → List Waiter) : Type 0 where
  pub ordered : (v : ℕ) → AllPairs Before (pushes v)
  pub within : (v : ℕ) → All (λ x. x.ticket ≤ g.claimed v) (pushes v)
  pub told : (v : ℕ) → All (Contains (claims_told g v)) (pushes v)
  pub sends : (s v : ℕ) (all : Bool) (oldest : Waiter) → k.stage s ≡ sending v all oldest → SendFits k g pushes s v oldest

-- the number of claims is the one that the ghost has
pub told_count : (g : CondvarGhost) (v : ℕ) → length (claims_told g v) ≡ g.claimed v
told_count g v = length-waiters (g.given v) 0 (g.claimed v)

-- one more record, whose ticket is greater than all others
pub one_after : (xs : List Waiter) (x : Waiter) → AllPairs Before xs → All (λ y. y.ticket < x.ticket) xs → AllPairs Before (xs ++ x ∷ [])
one_after xs x ordered below i j d before within =
    let size = length-append xs (x ∷ []) in
    elim (cases_lt j (length xs)) [
      | inl inside ↦
          rw (get_or_append_left xs (x ∷ []) d i (omega (arith, before, inside)), get_or_append_left xs (x ∷ []) d j inside)
          (ordered i j d before inside)
      | inr behind ↦
          let last : j ≡ length xs = omega (arith, behind, within, size) in
          rw (get_or_append_left xs (x ∷ []) d i (omega (arith, before, last)), last, get_or_push xs x d)
          (below i d (omega (arith, before, last)))
    ]

-- A seat that sends now sent the same waiter before. A record that it may still push now it might have pushed before
abbrev pub Back : CondvarCore → CondvarCore → ℕ → Type 0
Back k l s =
    (v : ℕ) (all : Bool) (oldest : Waiter) → l.stage s ≡ sending v all oldest
    → (k.stage s ≡ sending v all oldest) × ((t : ℕ) → to_push (point_of l s) ≡ Some t → to_push (point_of k s) ≡ Some t)

-- this is true of the seats that did not move
pub others_back : (k l : CondvarCore) (s t : ℕ) → SeatMoves k l s → t ≢ s → Back k l t
others_back k l s t moves other v all oldest stage =
    (sym (moves.others t other) ∙ stage, λ u some. ap (λ x. to_push x.point) (sym (moves.seats t other)) ∙ some)

pub all_back : (k l : CondvarCore) (s : ℕ) → SeatMoves k l s → Back k l s → (t : ℕ) → Back k l t
all_back k l s moves own t =
    elim (cases_eq t s) [
      | inl same ↦ subst (Back k l) (sym same) own
      | inr other ↦ others_back k l s t moves other
    ]

-- no waiter was claimed, and no record was pushed
pub quiet_fits : (k l : CondvarCore) (g h : CondvarGhost) (pushes those : ℕ → List Waiter) → PushFits k g pushes
    → ((v : ℕ) → claims_told h v ≡ claims_told g v) → ((v : ℕ) → those v ≡ pushes v) → ((t : ℕ) → Back k l t) → PushFits l h those
quiet_fits k l g h pushes those fits claims same back =
    let count : (v : ℕ) → h.claimed v ≡ g.claimed v = λ v. sym (told_count h v) ∙ ap length (claims v) ∙ told_count g v in
    record {
      ordered = λ v. rw (same v) (fits.ordered v);
      within = λ v. rw (same v, count v) (fits.within v);
      told = λ v. rw (same v, claims v) (fits.told v);
      sends = λ s v all oldest stage.
          let before = back s v all oldest stage in
          let own = fits.sends s v all oldest before.0 in
          record {
            last = own.last ∙ sym (count v);
            told = rw (claims v) own.told;
            fresh = λ t some. rw (same v) (own.fresh t (before.1 t some));
          };
    }

-- A claim, and a push

all_one : {A : Type 0} (P : A → Type 0) (x : A) → P x → All P (x ∷ [])
all_one P x holds zero d within = holds
all_one P x holds (suc i) d within = absurd (omega (arith, within))

-- if P implies Q and each item is a P, each item is a Q
all_so : {A : Type 0} (P Q : A → Type 0) (xs : List A) → ((x : A) → P x → Q x) → All P xs → All Q xs
all_so P Q xs so all i d within = so (get_or xs i d) (all i d within)

-- seats other than s send for other condvars than v
abbrev pub SendElsewhere : CondvarCore → ℕ → ℕ → Type 0
SendElsewhere k s v = (t w : ℕ) (all : Bool) (oldest : Waiter) → t ≢ s → k.stage t ≡ sending w all oldest → w ≢ v

-- a seat that did not move sends for a condvar of which no waiter was claimed and no record pushed
stays_sent : (k l : CondvarCore) (g h : CondvarGhost) (pushes those : ℕ → List Waiter) (s v t w : ℕ) (all : Bool) (oldest : Waiter)
    → PushFits k g pushes → SeatMoves k l s → SendElsewhere k s v → t ≢ s
    → ((u : ℕ) → u ≢ v → claims_told h u ≡ claims_told g u) → ((u : ℕ) → u ≢ v → those u ≡ pushes u)
    → l.stage t ≡ sending w all oldest → SendFits l h those t w oldest
stays_sent k l g h pushes those s v t w all oldest fits moves elsewhere other claims same stage =
    let before = others_back k l s t moves other w all oldest stage in
    let own = fits.sends t w all oldest before.0 in
    let apart = elsewhere t w all oldest other before.0 in
    let count : h.claimed w ≡ g.claimed w = sym (told_count h w) ∙ ap length (claims w apart) ∙ told_count g w in
    record {
      last = own.last ∙ sym count;
      told = rw (claims w apart) own.told;
      fresh = λ u some. rw (same w apart) (own.fresh u (before.1 u some));
    }

pub claimed_fits : (k l : CondvarCore) (g h : CondvarGhost) (pushes those : ℕ → List Waiter) (s v : ℕ) (all : Bool) (oldest : Waiter)
    → PushFits k g pushes → SeatMoves k l s → SendElsewhere k s v
    → claims_told h v ≡ claims_told g v ++ oldest ∷ [] → ((u : ℕ) → u ≢ v → claims_told h u ≡ claims_told g u)
    → ((u : ℕ) → those u ≡ pushes u)
    → l.stage s ≡ sending v all oldest → to_push (point_of l s) ≡ Some oldest.seat → oldest.ticket ≡ g.claimed v + 1
    → PushFits l h those
claimed_fits k l g h pushes those s v all oldest fits moves elsewhere here claims same stage at ticket =
    let size = length-append (claims_told g v) (oldest ∷ []) in
    let before = told_count g v in
    let after = told_count h v in
    let long = ap length here in
    let now : h.claimed v ≡ g.claimed v + 1 = omega (arith, size, before, after, long) in
    let own : SendFits l h those s v oldest = record {
      last = ticket ∙ sym now;
      told = rw here (Contains-append_right (claims_told g v) (oldest ∷ []) oldest (0, omega arith, refl));
      fresh = λ t some.
          let target : Some oldest.seat ≡ Some t = sym at ∙ some in (
            cc,
            rw (same v) (all_so (λ x. x.ticket ≤ g.claimed v) (λ x. x.ticket < oldest.ticket) (pushes v) (λ x p. omega (arith, p, ticket))
                (fits.within v)),
          );
    } in
    record {
      ordered = λ u. rw (same u) (fits.ordered u);
      within = λ u.
          elim (cases_eq u v) [
            | inl is ↦ rw (is, same v) (all_so (λ x. x.ticket ≤ g.claimed v) (λ x. x.ticket ≤ h.claimed v) (pushes v)
                (λ x p. omega (arith, p, now)) (fits.within v))
            | inr other ↦
                let count : h.claimed u ≡ g.claimed u = sym (told_count h u) ∙ ap length (claims u other) ∙ told_count g u in
                rw (same u, count) (fits.within u)
          ];
      told = λ u.
          elim (cases_eq u v) [
            | inl is ↦ rw (is, same v, here) (all_so (Contains (claims_told g v)) (Contains (claims_told g v ++ oldest ∷ [])) (pushes v)
                (λ x p. Contains-append_left (claims_told g v) (oldest ∷ []) x p) (fits.told v))
            | inr other ↦ rw (same u, claims u other) (fits.told u)
          ];
      sends = λ t w each sent does.
          elim (cases_eq t s) [
            | inl is ↦
                let one : sending v all oldest ≡ sending w each sent = sym stage ∙ ap l.stage (sym is) ∙ does in
                let condvar : v ≡ w = cc in
                let waiter : oldest ≡ sent = cc in
                subst (λ u. SendFits l h those u w sent) (sym is) (subst (λ u. SendFits l h those s u sent) condvar
                (subst (λ o. SendFits l h those s v o) waiter own))
            | inr other ↦ stays_sent k l g h pushes those s v t w each sent fits moves elsewhere other claims (λ u apart. same u) does
          ];
    }

pub pushed_fits : (k l : CondvarCore) (g h : CondvarGhost) (pushes those : ℕ → List Waiter) (s v target : ℕ) (all : Bool) (oldest : Waiter)
    → PushFits k g pushes → SeatMoves k l s → SendElsewhere k s v
    → ((u : ℕ) → claims_told h u ≡ claims_told g u)
    → those v ≡ pushes v ++ waiter_with target oldest.ticket ∷ [] → ((u : ℕ) → u ≢ v → those u ≡ pushes u)
    → k.stage s ≡ sending v all oldest → l.stage s ≡ k.stage s → to_push (point_of k s) ≡ Some target
    → ((t : ℕ) → to_push (point_of l s) ≡ Some t → ⊥)
    → PushFits l h those
pushed_fits k l g h pushes those s v target all oldest fits moves elsewhere claims here same stage stays at done =
    let own = fits.sends s v all oldest stage in
    let fresh = own.fresh target at in
    let x = waiter_with target oldest.ticket in
    let is_it : oldest ≡ x = same_waiter _ _ _ _ (sym fresh.0) refl in
    let count : (u : ℕ) → h.claimed u ≡ g.claimed u = λ u. sym (told_count h u) ∙ ap length (claims u) ∙ told_count g u in
    record {
      ordered = λ u.
          elim (cases_eq u v) [
            | inl is ↦ rw (is, here) (one_after (pushes v) x (fits.ordered v) fresh.1)
            | inr other ↦ rw (same u other) (fits.ordered u)
          ];
      within = λ u.
          elim (cases_eq u v) [
            | inl is ↦ rw (is, here, count v) (All-append (λ (y : Waiter). y.ticket ≤ g.claimed v) (pushes v) (x ∷ []) (fits.within v)
                (all_one (λ (y : Waiter). y.ticket ≤ g.claimed v) x (let last = own.last in omega (arith, last))))
            | inr other ↦ rw (same u other, count u) (fits.within u)
          ];
      told = λ u.
          elim (cases_eq u v) [
            | inl is ↦ rw (is, here, claims v) (All-append (Contains (claims_told g v)) (pushes v) (x ∷ []) (fits.told v)
                (all_one (Contains (claims_told g v)) x (subst (Contains (claims_told g v)) is_it own.told)))
            | inr other ↦ rw (same u other, claims u) (fits.told u)
          ];
      sends = λ t w each sent does.
          elim (cases_eq t s) [
            | inl is ↦
                let before = fits.sends s w each sent (sym stays ∙ ap l.stage (sym is) ∙ does) in
                subst (λ u. SendFits l h those u w sent) (sym is) (record {
                  last = before.last ∙ sym (count w);
                  told = rw (claims w) before.told;
                  fresh = λ u some. absurd (done u some);
                })
            | inr other ↦ stays_sent k l g h pushes those s v t w each sent fits moves elsewhere other (λ u apart. claims u) same does
          ];
    }
