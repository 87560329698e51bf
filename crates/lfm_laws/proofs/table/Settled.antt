-- A state stays steady if a seat changes without a step, so the start of a call and its first step can be treated as one.
use Rattle.std.proofs.Common.{◌≡◌, ℕ, zero, suc, true, false, Bool, ◌+◌, ◌&&◌, nat_lt, nat_eq, if◌then◌else◌, List, [], ◌∷◌, length, refl, ap, ◌∙◌, arith, inl, inr}
use Rattle.std.proofs.lemmas.Bool.{cases_eq, lt-ltb}
use Rattle.std.proofs.lemmas.List.{set-set}
use Rattle.lfm_protocol.specs.declared.answers.Call.{Call}
use Rattle.lfm_protocol.specs.declared.answers.Call.TheVariants.{Lock, TryLock, Unlock, StartWait, SendLock, Receive}
use Rattle.lfm_protocol.specs.declared.points.Point.{Point}
use Rattle.lfm_protocol.specs.declared.points.Point.TheVariants.{Rest, Asleep, LockCountAdd, TryCountExchange, ReleaseOwnerStore}
use Rattle.lfm_protocol.specs.declared.points.Releaser.TheVariants.{Waiter}
use Rattle.lfm_protocol.specs.declared.limits.Limits.{Limits}
use Rattle.lfm_protocol.specs.declared.seats.SeatState.{SeatState}
use Rattle.lfm_protocol.specs.Begin as Begin
use Rattle.lfm_protocol.specs.Begin.{Stepped}
use Rattle.lfm_protocol.specs.Core.{Core, put, limits}
use Rattle.lfm_laws.specs.steady.Ghost.{Ghost}
use Rattle.lfm_protocol.specs.Seats.{seat, with_entry, is_seat, IsSeat}
use Rattle.lfm_laws.specs.steady.Steady.{Fits, NumbersFit}
use Rattle.lfm_laws.proofs.steady.Begins.{begin_keeps}
use Rattle.lfm_laws.proofs.steady.frames.Entries.{seat-with_same, seat-with_other, length-with_entry}
use Rattle.lfm_laws.proofs.steady.frames.Frames.{view_moves}
use Rattle.lfm_laws.specs.table.Settles.{begun, Settles}
use Rattle.lfm_laws.specs.table.Words.{IsNarrow}
use Rattle.lfm_laws.proofs.table.Narrow.{narrow_begin}

-- The list of starts

pub settles_same : (x : SeatState) (l : Limits) → Settles x l x
settles_same x l = record { calls = []; leads = refl }

-- one more call begins
pub settles_begin : (x : SeatState) (l : Limits) (p : SeatState) (call : Call) → Settles x l p → Settles x l (Begin.begin p l call).seat
settles_begin x l p call settles =
    record { calls = call ∷ settles.calls; leads = ap (λ p. (Begin.begin p l call).seat) settles.leads }

-- Writes of one seat

pub test_of_seat : (seats : List SeatState) (s : ℕ) → IsSeat seats s → is_seat seats s ≡ true
test_of_seat seats s is = rw (lt-ltb 0 s is.above, lt-ltb s (length seats + 1) (omega (arith, is.within))) refl

pub with_entry-twice : {A : Type 0} (xs : List A) (s : ℕ) (x y : A) → with_entry (with_entry xs s x) s y ≡ with_entry xs s y
unfolding with_entry
with_entry-twice xs zero x y = refl
with_entry-twice xs (suc n) x y = set-set xs n x y

pub is_seat-with : (seats : List SeatState) (s t : ℕ) (x : SeatState) → IsSeat seats t → IsSeat (with_entry seats s x) t
is_seat-with seats s t x is =
    record { above = is.above; within = omega (arith, is.within, length-with_entry seats s x) }

pub limits-put : (c : Core) (s : ℕ) (x : SeatState) → limits (put c s x) ≡ limits c
limits-put c s x = ap (λ n. record { seats = n; budget = c.budget }) (length-with_entry c.seats s x)

-- A start of a call in a state whose seat is x

begin_from : (c : Core) (g : Ghost) (s : ℕ) (x : SeatState) (call : Call) → IsSeat c.seats s → Fits (put c s x) g
    → Fits (put c s (Begin.begin x (limits c) call).seat) g
begin_from c g s x call is fits =
    let d = put c s x in
    let kept = begin_keeps (put c s x) g s call fits in
    let test = test_of_seat (with_entry c.seats s x) s (is_seat-with c.seats s s x is) in
    let begun = rw test at kept in
    let here = rw (seat-with_same c.seats s x is, limits-put c s x) at begun in
    rw (with_entry-twice c.seats s x (Begin.begin x (limits c) call).seat) at here

begun_keeps : (c : Core) (g : Ghost) (s : ℕ) (calls : List Call) → IsSeat c.seats s → Fits c g → Fits (put c s (begun (seat c.seats s) (limits c) calls)) g
begun_keeps c g s [] is fits =
    view_moves c g s (seat c.seats s) is fits (record { asks_same = refl; claims_same = refl; posts_same = refl }) (fits.each s)
begun_keeps c g s (call ∷ calls) is fits =
    begin_from c g s (begun (seat c.seats s) (limits c) calls) call is (begun_keeps c g s calls is fits)

pub settles_keeps : (c : Core) (g : Ghost) (s : ℕ) (p : SeatState) → IsSeat c.seats s → Fits c g → Settles (seat c.seats s) (limits c) p → Fits (put c s p) g
settles_keeps c g s p is fits settles = rw settles.leads (begun_keeps c g s settles.calls is fits)

begun_narrow : (x : SeatState) (l : Limits) (calls : List Call) → IsNarrow x.point → IsNarrow (begun x l calls).point
begun_narrow x l [] narrow = narrow
begun_narrow x l (call ∷ calls) narrow = narrow_begin (begun x l calls) l call (begun_narrow x l calls narrow)

pub settles_narrow : (x : SeatState) (l : Limits) (p : SeatState) → Settles x l p → IsNarrow x.point → IsNarrow p.point
settles_narrow x l p settles narrow = rw settles.leads (begun_narrow x l settles.calls narrow)

-- No start of a call posts, so the numbers of a state fit as before

posts_if : (n : ℕ) (b : Bool) (x y : Stepped) → x.seat.posts ≡ n → y.seat.posts ≡ n → (if b then x else y).seat.posts ≡ n
posts_if n true x y e f = e
posts_if n false x y e f = f

posts_charged : (x : SeatState) (budget : ℕ) (p : Point) → (Begin.charges x budget p).seat.posts ≡ x.posts
posts_charged x budget p = posts_if x.posts (nat_lt x.takes budget) _ _ refl refl

posts_entry : (x : SeatState) (budget : ℕ) (p : Point) → (Begin.begin_entry x budget p).seat.posts ≡ x.posts
posts_entry x budget p = posts_if x.posts (nat_lt 65534 x.depth) _ _ refl (posts_if x.posts (nat_eq x.depth 0) _ _ (posts_charged x budget p) refl)

posts_awake : (x : SeatState) (l : Limits) (call : Call) → (Begin.begin_awake x l call).seat.posts ≡ x.posts
posts_awake x l Lock = posts_entry x l.budget LockCountAdd
posts_awake x l TryLock = posts_entry x l.budget TryCountExchange
posts_awake x l Unlock = posts_if x.posts (nat_eq x.depth 0) _ _ refl (posts_if x.posts (nat_eq x.depth 1) _ _ refl refl)
posts_awake x l StartWait = posts_if x.posts (nat_eq x.depth 0) _ _ refl (posts_if x.posts (nat_lt 1 x.depth) _ _ refl (posts_charged x l.budget (ReleaseOwnerStore Waiter)))
posts_awake x l (SendLock t) = posts_if x.posts (nat_lt 0 t && nat_lt t (l.seats + 1)) _ _ refl refl
posts_awake x l Receive = refl

posts_at : (x : SeatState) (l : Limits) (call : Call) (p : Point) → (Begin.begin_at x l call p).seat.posts ≡ x.posts
posts_at x l call Rest = posts_awake x l call
posts_at x l Receive (Asleep sleeper) = refl
posts_at x l _ (Asleep sleeper) = refl
posts_at x l call _ = refl

posts_begun : (x : SeatState) (l : Limits) (calls : List Call) → (begun x l calls).posts ≡ x.posts
posts_begun x l [] = refl
posts_begun x l (call ∷ calls) = posts_at (begun x l calls) l call (begun x l calls).point ∙ posts_begun x l calls

pub numbers_put : (c : Core) (s : ℕ) (p : SeatState) → IsSeat c.seats s → Settles (seat c.seats s) (limits c) p → NumbersFit c → NumbersFit (put c s p)
numbers_put c s p is settles fit = record {
  stamp = fit.stamp;
  posts = λ t.
      elim (cases_eq t s) [
        | inl here ↦
            let same : p.posts ≡ (seat c.seats s).posts = ap (λ x. x.posts) settles.leads ∙ posts_begun (seat c.seats s) (limits c) settles.calls in
            let few = fit.posts s in
            rw (here, seat-with_same c.seats s p is) (omega (arith, same, few))
        | inr other ↦ rw (seat-with_other c.seats s t p other) (fit.posts t)
      ];
}
