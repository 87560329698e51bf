-- The place that a state shows by its words and points is that of its ghost.
use Rattle.std.proofs.Common.{◌≡◌, ◌≢◌, ℕ, suc, Bool, true, false, ◌+◌, ◌-◌, ◌<◌, Some, None, List, length, get_or, position, refl, sym, ap, ◌∙◌, inl, inr, arith}
use Rattle.std.proofs.lemmas.Bool.{cases_Bool, false≢true, eq-eqb, ne_eqb, lt-ltb, le-ltb, false_from_ne_true}
use Rattle.std.proofs.lemmas.List.Sums.{position_or_len_is}
use Rattle.std.proofs.lemmas.Slice.Zip.{length-zip, get_or-zip}
use Rattle.std.specs.List.{zip}
use Rattle.lfm_model.specs.Abstract.{AbstractPlace, Carrying, free, owner, passed, carried}
use Rattle.lfm_model.specs.Abstract as Abstract
use Rattle.lfm_model.specs.declared.answers.Place.{Place}
use Rattle.lfm_protocol.specs.declared.points.Point.{Point}
use Rattle.lfm_protocol.specs.declared.points.Point.TheVariants.{TryCountAdd, SendWakeStore, ReleaseCountSubtract, ReleaseHandoffStore, TakeClearHead, TakeLinkLoad, GrantWakeStore, EnterOwnerStore, ReceiveWakeStore}
use Rattle.lfm_protocol.specs.declared.seats.SeatState.{SeatState}
use Rattle.lfm_words.specs.declared.wakes.Wake.{Wake}
use Rattle.lfm_words.specs.declared.wakes.Wake.TheVariants.{Quiet, Grant}
use Rattle.lfm_protocol.specs.Core.{Core}
use Rattle.lfm_laws.specs.steady.Ghost.{Responsibility, nobody, owned, granted, posted, entering, accepting, leaving, serving, Ghost}
use Rattle.lfm_laws.specs.laws.Laws.{printed}
use Rattle.lfm_laws.specs.steady.EventOutcome.{abstract_place}
use Rattle.lfm_protocol.specs.Place.{carries, has_loaded, is_passed, passed_place, carried_place, place_of}
use Rattle.lfm_laws.specs.laws.Reading.{carrying_at, Claims, by_owner, by_handoff, by_grant, by_call}
use Rattle.lfm_protocol.specs.Seats.{entry, seat, wake, absent, unposted, IsSeat}
use Rattle.lfm_laws.specs.steady.Steady.{owner_of, Fits}
use Rattle.lfm_laws.specs.steady.Views.{grant_at, is_some}
use Rattle.lfm_laws.proofs.lawful.read.ClaimsRead.{carried_some, claims_place, place_claims}
use Rattle.lfm_laws.proofs.steady.frames.Seated.{seat_of_point}
use Rattle.lfm_laws.proofs.steady.frames.Entries.{seat_or_absent}

-- The first index of a list that passes a test

position_at : {X : Type 0} (p : X → Bool) (xs : List X) (i : ℕ) (d : X) → i < length xs → ((k : ℕ) → k < i → p (get_or xs k d) ≡ false) → p (get_or xs i d) ≡ true
    → position p xs ≡ Some i
position_at p xs i d within before here =
    let at = position_or_len_is p xs i d (omega arith) before (λ l. here) in
    rw (at, lt-ltb i (length xs) within) refl

position_none : {X : Type 0} (p : X → Bool) (xs : List X) (d : X) → ((k : ℕ) → k < length xs → p (get_or xs k d) ≡ false) → position p xs ≡ None
position_none p xs d none =
    let at = position_or_len_is p xs (length xs) d (omega arith) none (λ l. absurd (omega arith)) in
    rw (at, le-ltb (length xs) (length xs) (omega arith)) refl

-- The seats and their words

seat_read : (seats : List SeatState) (k : ℕ) → get_or seats k absent ≡ seat seats (k + 1)
unfolding entry
seat_read seats k = let more : k + 1 ≡ suc k = omega arith in rw more refl

wake_read : (wakes : List Wake) (k : ℕ) → get_or wakes k Quiet ≡ wake wakes (k + 1)
unfolding entry
wake_read wakes k = let more : k + 1 ≡ suc k = omega arith in rw more refl

-- a seat has a grant that it has not loaded
abbrev has_grant : Wake × SeatState → Bool
has_grant w = is_passed w.0 w.1.point

abbrev calls : SeatState → Bool
calls x = carries x.point

-- the same for the seat with this number
abbrev is_granted : Core → ℕ → Bool
is_granted c s = is_passed (wake c.wakes s) (seat c.seats s).point

grant_read : (c : Core) (g : Ghost) (k : ℕ) → Fits c g → k < length c.seats → has_grant (get_or (zip c.wakes c.seats) k (Quiet, absent)) ≡ is_granted c (k + 1)
grant_read c g k fits within =
    let pair = get_or-zip c.wakes c.seats k (Quiet, absent) (omega (arith, fits.sizes.wakes)) within in
    rw (pair, seat_read c.seats k, wake_read c.wakes k) refl

length-pairs : (c : Core) (g : Ghost) → Fits c g → length (zip c.wakes c.seats) ≡ length c.seats
length-pairs c g fits = omega (arith, length-zip c.wakes c.seats, fits.sizes.wakes)

-- What they claim

grant_told : (c : Core) (s : ℕ) (w : Wake) (p : Point) → wake c.wakes s ≡ w → (seat c.seats s).point ≡ p → is_passed w p ≡ true → Claims c (passed s)
grant_told c s (Grant stamp) p word at holds =
    elim (cases_Bool (has_loaded p)) [
      | inl loaded ↦ absurd (false≢true (rw loaded at holds))
      | inr unloaded ↦ by_grant s stamp word (ap has_loaded at ∙ unloaded) refl
    ]
grant_told c s _ p word at holds = absurd (false≢true holds)

call_told : (s : ℕ) (p : Point) → carries p ≡ true → (how : Carrying) × (carrying_at s p ≡ Some how)
call_told s TryCountAdd e = (_, refl)
call_told s (SendWakeStore t) e = (_, refl)
call_told s (ReleaseCountSubtract releaser) e = (_, refl)
call_told s (ReleaseHandoffStore releaser) e = (_, refl)
call_told s (TakeClearHead carrier) e = (_, refl)
call_told s (TakeLinkLoad carrier next) e = (_, refl)
call_told s (GrantWakeStore carrier oldest) e = (_, refl)
call_told s (EnterOwnerStore entrant how) e = (_, refl)
call_told s (ReceiveWakeStore stamp) e = (_, refl)
call_told s _ e = absurd (false≢true e)

call_shown : (s : ℕ) (p : Point) (how : Carrying) → carrying_at s p ≡ Some how → carries p ≡ true
call_shown s TryCountAdd how e = refl
call_shown s (SendWakeStore t) how e = refl
call_shown s (ReleaseCountSubtract releaser) how e = refl
call_shown s (ReleaseHandoffStore releaser) how e = refl
call_shown s (TakeClearHead carrier) how e = refl
call_shown s (TakeLinkLoad carrier next) how e = refl
call_shown s (GrantWakeStore carrier oldest) how e = refl
call_shown s (EnterOwnerStore entrant how') how e = refl
call_shown s (ReceiveWakeStore stamp) how e = refl
call_shown s _ how e = cc

-- a place that is claimed shows in the words or points of its seat

abbrev seat_in : AbstractPlace → ℕ
seat_in (owner s) = s
seat_in (passed s) = s
seat_in (carried s how) = s
seat_in _ = 0

owner_shows : (c : Core) (s : ℕ) → Claims c (owner s) → 0 < (seat c.seats s).depth
owner_shows c s (by_owner t above here) = let same : s ≡ t = ap seat_in here in rw same above
owner_shows c s (by_handoff above here) = cc
owner_shows c s (by_grant t stamp word unloaded here) = cc
owner_shows c s (by_call t how calling here) = cc

grant_shows : (c : Core) (s : ℕ) → Claims c (passed s) → is_granted c s ≡ true
grant_shows c s (by_owner t above here) = cc
grant_shows c s (by_handoff above here) = cc
grant_shows c s (by_grant t stamp word unloaded here) = let same : s ≡ t = ap seat_in here in rw (same, word, unloaded) refl
grant_shows c s (by_call t how calling here) = cc

call_shows : (c : Core) (s : ℕ) (how : Carrying) → Claims c (carried s how) → carries (seat c.seats s).point ≡ true
call_shows c s how (by_owner t above here) = cc
call_shows c s how (by_handoff above here) = cc
call_shows c s how (by_grant t stamp word unloaded here) = cc
call_shows c s how (by_call t how' calling here) = let same : s ≡ t = ap seat_in here in rw same (call_shown t (seat c.seats t).point how' calling)

-- no other seat shows that place

granted_place : (c : Core) (g : Ghost) (s : ℕ) → Fits c g → is_granted c s ≡ true → passed s ≡ abstract_place g.place
granted_place c g s fits holds = claims_place c g fits (passed s) (grant_told c s (wake c.wakes s) (seat c.seats s).point refl refl holds)

calling_place : (c : Core) (g : Ghost) (s : ℕ) → Fits c g → carries (seat c.seats s).point ≡ true → (how : Carrying) × (carried s how ≡ abstract_place g.place)
calling_place c g s fits holds =
    let told = call_told s (seat c.seats s).point holds in
    (told.0, claims_place c g fits (carried s told.0) (by_call s told.0 told.1 refl))

-- The seats that show a claim

passed_some : (s : ℕ) → passed s ≢ free
passed_some s e = cc

seat_of_depth : (seats : List SeatState) (s : ℕ) → 0 < (seat seats s).depth → IsSeat seats s
seat_of_depth seats s above =
    elim (seat_or_absent seats s) [
      | inl is ↦ is
      | inr none ↦ let flat : (seat seats s).depth ≡ 0 = ap (λ x. x.depth) none in absurd (omega arith)
    ]

below : (s k : ℕ) → 0 < s → k < s - 1 → k + 1 ≢ s
below s k above lower same = absurd (omega arith)

seat_before : (c : Core) (s : ℕ) → IsSeat c.seats s → s - 1 < length c.seats
seat_before c s is = omega (arith, is.above, is.within)

-- no seat has a grant if the place isn't granted
grants_none : (c : Core) (g : Ghost) → Fits c g → ((s : ℕ) → passed s ≢ abstract_place g.place) → position has_grant (zip c.wakes c.seats) ≡ None
grants_none c g fits none =
    position_none has_grant (zip c.wakes c.seats) (Quiet, absent) (λ k within.
    grant_read c g k fits (omega (arith, within, length-pairs c g fits)) ∙ false_from_ne_true (is_granted c (k + 1)) (λ holds. none (k + 1) (granted_place c g (k + 1) fits holds)))

granted_at : (c : Core) (g : Ghost) (s : ℕ) → Fits c g → IsSeat c.seats s → abstract_place g.place ≡ passed s → position has_grant (zip c.wakes c.seats) ≡ Some (s - 1)
granted_at c g s fits is here =
    let within = seat_before c s is in
    let number : s - 1 + 1 ≡ s = omega (arith, is.above) in
    let shows : is_granted c s ≡ true = grant_shows c s (rw here at (place_claims c g g.place fits refl (λ none. passed_some s (sym here ∙ none)))) in
    position_at has_grant (zip c.wakes c.seats) (s - 1) (Quiet, absent) (omega (arith, within, length-pairs c g fits))
    (λ k lower. grant_read c g k fits (omega (arith, lower, within)) ∙ false_from_ne_true (is_granted c (k + 1)) (λ holds.
    below s k is.above lower (ap seat_in (granted_place c g (k + 1) fits holds ∙ here))))
    (grant_read c g (s - 1) fits within ∙ ap (is_granted c) number ∙ shows)

calls_none : (c : Core) (g : Ghost) → Fits c g → ((s : ℕ) (how : Carrying) → carried s how ≢ abstract_place g.place) → position calls c.seats ≡ None
calls_none c g fits none =
    position_none calls c.seats absent (λ k within. ap calls (seat_read c.seats k) ∙ false_from_ne_true (calls (seat c.seats (k + 1))) (λ holds.
    let calling = calling_place c g (k + 1) fits holds in none (k + 1) calling.0 calling.1))

calling_at : (c : Core) (g : Ghost) (s : ℕ) (how : Carrying) → Fits c g → IsSeat c.seats s → abstract_place g.place ≡ carried s how → position calls c.seats ≡ Some (s - 1)
calling_at c g s how fits is here =
    let within = seat_before c s is in
    let number : s - 1 + 1 ≡ s = omega (arith, is.above) in
    let shows = call_shows c s how (rw here at (place_claims c g g.place fits refl (λ none. carried_some s how (sym here ∙ none)))) in
    position_at calls c.seats (s - 1) absent within
    (λ k lower. ap calls (seat_read c.seats k) ∙ false_from_ne_true (calls (seat c.seats (k + 1))) (λ holds.
    let calling = calling_place c g (k + 1) fits holds in below s k is.above lower (ap seat_in (calling.1 ∙ here))))
    (ap calls (seat_read c.seats (s - 1)) ∙ ap (λ t. calls (seat c.seats t)) number ∙ shows)

-- The place that is shown

untold : (c : Core) → c.owner ≡ 0 → c.handoff ≡ unposted → place_of c ≡ passed_place c (position has_grant (zip c.wakes c.seats))
untold c none unposted = rw (none, unposted) refl

told_free : (c : Core) (g : Ghost) → Fits c g → g.place ≡ nobody → place_of c ≡ Place.Free
told_free c g fits here =
    let no_grant = grants_none c g fits (λ s e. let f : passed s ≡ free = e ∙ ap abstract_place here in cc) in
    let no_call = calls_none c g fits (λ s how e. let f : carried s how ≡ free = e ∙ ap abstract_place here in cc) in
    untold c (fits.words.owner ∙ ap owner_of here) (rw here at fits.words.handoff) ∙ ap (passed_place c) no_grant ∙ ap carried_place no_call

told_owner : (c : Core) (g : Ghost) (s : ℕ) (again : Bool) → Fits c g → g.place ≡ owned s again → place_of c ≡ Place.Owner s
told_owner c g s again fits here =
    let depth = owner_shows c s (place_claims c g (owned s again) fits here (λ e. cc)) in
    let is = seat_of_depth c.seats s depth in
    let word : c.owner ≡ s = fits.words.owner ∙ ap owner_of here in
    rw (word, ne_eqb s 0 (omega (arith, is.above))) refl

told_passed : (c : Core) (g : Ghost) (s stamp : ℕ) → Fits c g → g.place ≡ granted s stamp → place_of c ≡ Place.Passed s
told_passed c g s stamp fits here =
    let given : grant_at g.place s ≡ Some stamp = rw (here, eq-eqb s s refl) refl in
    let is = seat_of_point c.seats s (λ rests. let awaits = ((fits.each s).granted (ap is_some given)).0 in false≢true (rw rests at awaits)) in
    let number : s - 1 + 1 ≡ s = omega (arith, is.above) in
    untold c (fits.words.owner ∙ ap owner_of here) (rw here at fits.words.handoff) ∙ ap (passed_place c) (granted_at c g s fits is (ap abstract_place here)) ∙ ap Place.Passed number

told_posted : (c : Core) (g : Ghost) → Fits c g → g.place ≡ posted → place_of c ≡ Place.Posted
told_posted c g fits here =
    let is : IsSeat c.seats c.handoff.seat = rw here at fits.words.handoff in
    let none : c.owner ≡ 0 = fits.words.owner ∙ ap owner_of here in
    rw (none, ne_eqb c.handoff.seat 0 (omega (arith, is.above))) refl

told_carried : (c : Core) (g : Ghost) (s : ℕ) (how : Carrying) → Fits c g → abstract_place g.place ≡ carried s how → c.owner ≡ 0 → c.handoff ≡ unposted → place_of c ≡ Place.Carried s
told_carried c g s how fits here none unposted =
    let shows = call_shows c s how (rw here at (place_claims c g g.place fits refl (λ e. carried_some s how (sym here ∙ e)))) in
    let is = seat_of_point c.seats s (λ rests. false≢true (rw rests at shows)) in
    let number : s - 1 + 1 ≡ s = omega (arith, is.above) in
    let no_grant = grants_none c g fits (λ t e. let f : passed t ≡ carried s how = e ∙ here in cc) in
    untold c none unposted ∙ ap (passed_place c) no_grant ∙ ap carried_place (calling_at c g s how fits is here) ∙ ap Place.Carried number

told_at : (c : Core) (g : Ghost) (place : Responsibility) → Fits c g → g.place ≡ place → place_of c ≡ printed (abstract_place place)
told_at c g nobody fits here = told_free c g fits here
told_at c g (owned s again) fits here = told_owner c g s again fits here
told_at c g (granted s stamp) fits here = told_passed c g s stamp fits here
told_at c g posted fits here = told_posted c g fits here
told_at c g (entering s into stamp) fits here = told_carried c g s (Abstract.entering into) fits (ap abstract_place here) (fits.words.owner ∙ ap owner_of here) (rw here at fits.words.handoff)
told_at c g (accepting s) fits here = told_carried c g s (Abstract.entering s) fits (ap abstract_place here) (fits.words.owner ∙ ap owner_of here) (rw here at fits.words.handoff)
told_at c g (leaving s) fits here = told_carried c g s Abstract.leaving fits (ap abstract_place here) (fits.words.owner ∙ ap owner_of here) (rw here at fits.words.handoff)
told_at c g (serving s) fits here = told_carried c g s Abstract.serving fits (ap abstract_place here) (fits.words.owner ∙ ap owner_of here) (rw here at fits.words.handoff)

pub place_told : (c : Core) (g : Ghost) → Fits c g → place_of c ≡ printed (abstract_place g.place)
place_told c g fits = told_at c g g.place fits refl
