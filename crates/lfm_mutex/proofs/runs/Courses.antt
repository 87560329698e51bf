-- The course of a call: what the steps that it has made add up to.
use Rattle.std.proofs.Common.{◌≡◌, ◌≢◌, ℕ, ◌+◌, sym, refl, ap, ◌∙◌, subst, Option, Some, None}
use Rattle.std.specs.Prelude.{true, false}
use Rattle.lfm_table.specs.Table.{Me}
use Rattle.lfm_model.specs.declared.answers.How.{How}
use Rattle.lfm_protocol.specs.declared.answers.Call.{Call}
use Rattle.lfm_protocol.specs.declared.answers.Turn.{Turn}
use Rattle.lfm_protocol.specs.declared.answers.Turn.TheVariants.{Open}
use Rattle.lfm_protocol.specs.declared.limits.Limits.{Limits}
use Rattle.lfm_protocol.specs.declared.points.Point.TheVariants.{ReleaseOwnerStore}
use Rattle.lfm_protocol.specs.declared.points.Releaser.{Releaser}
use Rattle.lfm_protocol.specs.declared.seats.SeatState.{SeatState}
use Rattle.lfm_protocol.specs.Begin as Begin
use Rattle.lfm_protocol.specs.Begin.{Stepped}
use Rattle.lfm_protocol.specs.Points.{kind}
use Rattle.lfm_table.specs.declared.seat_view.View.{View}
use Rattle.lfm_table.specs.declared.rule.Moving.{Moving}
use Rattle.lfm_table.specs.Rule.{value_in, LastHold, last_hold}
use Rattle.lfm_mutex.specs.calls.Runs.{errand_of, is_releasing, is_release, Ends, Ran, CalledBy, Holds, opens}
use Rattle.lfm_table.specs.Seats.{Seated}
use Rattle.lfm_mutex.specs.calls.Sight.{Concludes, sight_of}
use Rattle.lfm_laws.specs.table.Words.{stepped_by}
use Rattle.lfm_table.specs.Steps.{Event, oldest_in}
use Rattle.lfm_table.specs.FastPath.{Fit, MadeStep}
use Rattle.lfm_mutex.specs.calls.FastPath.{Course, ComesTo}
use Rattle.lfm_mutex.proofs.runs.MadeCalls.{makes}
use Rattle.lfm_mutex.proofs.runs.Running.{called_at_once, ran_one, last_one, ran_none, ran_more, ran_join, last_more, holds_now}
use Rattle.lfm_mutex.proofs.runs.FastPathPoints.{event_there}
use Rattle.lfm_mutex.proofs.runs.StartSights.{turned_at_once, begun}
use Rattle.lfm_mutex.proofs.runs.Conclusions.{first_concludes, concludes_now, concludes_join, stays_now, stays_join, stays_none}
use Rattle.lfm_mutex.proofs.runs.EndSights.{turned_by_release, turned_by_steps}

none_held : (how : How) → ◌≡◌ {A = Option How} None (Some how) → ⊥
none_held how e = cc

module _ {T : Type 0} (follows : ℕ → T → T → Type 0) (suits : T → ℕ → Type 0) (s : ℕ) (p0 : SeatState) (a0 : Option (Moving T)) (v0 : View T) where
  abbrev CourseNow : Turn → SeatState → Option (Moving T) → View T → Type 0
  CourseNow turn p a v = Course follows suits s p0 a0 v0 turn p a v

  -- no step yet
  pub course_none : CourseNow Open p0 a0 v0
  course_none = record {
    ran = ran_none s p0 v0;
    concludes = (refl, refl, λ still. still);
    stays = stays_none p0.depth v0 (value_in a0);
    last = refl;
    held = λ how e. absurd (none_held how e);
  }

  -- one more step
  pub course_more : (l : Limits) (p q : SeatState) (m : Me (Option (Moving T)) (View T)) (a b : Option (Moving T)) (w : View T) (turn : Turn) → CourseNow Open p a m.0 → Seated s l p m a → Event follows suits p a m.0 turn q b w → kind p.point ≢ None
      → is_release p.point ≡ false → CourseNow turn q b w
  course_more l p q m a b w turn so was e some keeps =
      let told : Concludes p turn q = concludes_now follows suits s p q m.0 w a b turn was.named e some keeps in record {
        ran = ran_more follows suits s p0 v0 p q m.0 w a b turn so.ran was.named e;
        concludes = concludes_join p0 p q turn so.concludes told;
        stays = stays_join p0.depth p.depth v0 m.0 w (value_in a0) (value_in a) (value_in b) so.concludes.0 so.stays (stays_now follows suits s p q m.0 w a b turn was.named e keeps told);
        last = last_more follows suits s p0 v0 p q m.0 w a b turn so.ran was.named e keeps ∙ so.last;
        held = λ how is. holds_now follows suits s l p q m w a b turn (last_hold v0) was so.last e how is;
      }

  -- the steps that the slow path makes after it
  pub course_join : (p q : SeatState) (a b : Option (Moving T)) (v w : View T) (turn : Turn) → CourseNow Open p a v → Course follows suits s p a v turn q b w → CourseNow turn q b w
  course_join p q a b v w turn so then = record {
    ran = ran_join s p0 p q v0 v w turn so.ran then.ran;
    concludes = concludes_join p0 p q turn so.concludes then.concludes;
    stays = stays_join p0.depth p.depth v0 v w (value_in a0) (value_in a) (value_in b) so.concludes.0 so.stays then.stays;
    last = then.last ∙ so.last;
    held = λ how is. subst (λ (o : LastHold T). Holds follows suits s o how q b w) so.last (then.held how is);
  }

  -- the whole contract of a call that has ended with these steps
  pub comes : (n : ℕ) (l all : Limits) (call : Call) (p q : SeatState) (turn : Turn) (b : Option (Moving T)) (w : View T) → l ≡ all → n ≡ s → is_releasing (errand_of call) ≡ false → Begin.begin p l call ≡ opens p0 → Ends (errand_of call) turn → CourseNow turn q b w
      → ComesTo follows suits all call (sight_of s p v0 (value_in a0)) (sight_of n q w (value_in b)) turn
  comes n l all call p q turn b w same named keeps begins ends so =
      subst (λ (k : Limits). ComesTo follows suits k call (sight_of s p v0 (value_in a0)) (sight_of n q w (value_in b)) turn) same (record {
        turned = turned_by_steps follows suits s n l p p0 q v0 w a0 b named call turn keeps
            (begun follows suits s l v0 (value_in a0) p p0 call (ap (λ (z : Stepped). z.turn) (sym begins)) (ap (λ (z : Stepped). z.seat) (sym begins)))
            ends so.concludes so.held so.stays so.last so.ran;
        made = makes l call s n p q v0 w (value_in a0) (value_in b) turn named (subst (λ (z : Stepped). CalledBy z.turn s (errand_of call) z.seat v0 turn q w) (sym begins) (ends, so.ran));
      })

  -- one more step, from the contract of that step
  pub course_next : (words id : ℕ) (l : Limits) (p : SeatState) (n : ℕ) (m : Me (Option (Moving T)) (View T)) (a : Option (Moving T)) (m' : Me (Option (Moving T)) (View T)) (a' : Option (Moving T)) (words' id' : ℕ) (st : Stepped)
      → CourseNow Open p a m.0 → Fit s words id l p m a → MadeStep follows suits s words' id' l p n m a m' a' → stepped_by p s n (oldest_in a') ≡ st → kind p.point ≢ None → is_release p.point ≡ false → CourseNow st.turn st.seat a' m'.0
  course_next words id l p n m a m' a' words' id' st so fit did is some keeps =
      course_more l p st.seat m a a' m'.0 st.turn so fit.seated (event_there follows suits s words' id' l p n m a m' a' did st is) some keeps

-- A release

-- the whole contract of a release, from what its steps add up to
pub released : {T : Type 0} (follows : ℕ → T → T → Type 0) (suits : T → ℕ → Type 0) (s n : ℕ) (l all : Limits) (call : Call) (p p0 q : SeatState) (v w : View T) (a b : Option (Moving T)) (turn : Turn) → l ≡ all → n ≡ s → is_releasing (errand_of call) ≡ true
    → Begin.begin p l call ≡ opens p0 → Ends (errand_of call) turn → Concludes (record p0 { depth = 0 }) turn q → last_hold w ≡ (value_in a, v.found, v.limits, v.holds_ended + 1) → Ran s (opens p0) v turn q w
    → ComesTo follows suits all call (sight_of s p v (value_in a)) (sight_of n q w (value_in b)) turn
released follows suits s n l all call p p0 q v w a b turn same named gives begins ends concludes left ran =
    subst (λ (k : Limits). ComesTo follows suits k call (sight_of s p v (value_in a)) (sight_of n q w (value_in b)) turn) same (record {
      turned = turned_by_release follows suits s n l p p0 q v w a b named call turn gives
          (begun follows suits s l v (value_in a) p p0 call (ap (λ (z : Stepped). z.turn) (sym begins)) (ap (λ (z : Stepped). z.seat) (sym begins))) ends concludes left ran;
      made = makes l call s n p q v w (value_in a) (value_in b) turn named (subst (λ (z : Stepped). CalledBy z.turn s (errand_of call) z.seat v turn q w) (sym begins) (ends, ran));
    })

module _ {T : Type 0} (follows : ℕ → T → T → Type 0) (suits : T → ℕ → Type 0) (s words id words' id' n k : ℕ) (l : Limits) (p0 p1 : SeatState) (m0 m1 : Me (Option (Moving T)) (View T)) (a a1 : Option (Moving T)) (fit : Fit s words id l p0 m0 a) (u : Releaser) (at : p0.point ≡ ReleaseOwnerStore u)
    (did : MadeStep follows suits s words' id' l p0 k m0 a m1 a1) (is : stepped_by p0 s k (oldest_in a1) ≡ opens p1) where
  first : Event follows suits p0 a m0.0 Open p1 a1 m1.0
  first = event_there follows suits s words' id' l p0 k m0 a m1 a1 did (opens p1) is

  -- the whole contract of a release, from the course of the steps after the store that ends the hold
  pub gives_up : (call : Call) (all : Limits) (p q : SeatState) (turn : Turn) (b : Option (Moving T)) (w : View T) → is_releasing (errand_of call) ≡ true → l ≡ all → n ≡ s → Begin.begin p l call ≡ opens p0 → Ends (errand_of call) turn → Course follows suits s p1 a1 m1.0 turn q b w
      → ComesTo follows suits all call (sight_of s p m0.0 (value_in a)) (sight_of n q w (value_in b)) turn
  gives_up call all p q turn b w gives same named begins ends so =
      released follows suits s n l all call p p0 q m0.0 w a b turn same named gives begins ends (concludes_join (record p0 { depth = 0 }) p1 q turn (first_concludes follows suits p0 p1 m0.0 m1.0 a a1 Open first u at) so.concludes)
      (so.last ∙ last_one follows suits s p0 p1 m0.0 m1.0 a a1 Open fit.seated.named first u at) (ran_join s p0 p1 q m0.0 m1.0 w turn (ran_one follows suits s p0 p1 m0.0 m1.0 a a1 Open fit.seated.named first) so.ran)

-- A call that makes no step

pub ends_at_once : {T : Type 0} (follows : ℕ → T → T → Type 0) (suits : T → ℕ → Type 0) (s : ℕ) (l all : Limits) (call : Call) (p q : SeatState) (v : View T) (a : Option (Moving T)) (turn : Turn) → l ≡ all → turn ≢ Open → Begin.begin p l call ≡ record { seat = q; turn = turn }
    → ComesTo follows suits all call (sight_of s p v (value_in a)) (sight_of s q v (value_in a)) turn
ends_at_once follows suits s l all call p q v a turn same some begins =
    let t : turn ≡ (Begin.begin p l call).turn = ap (λ (z : Stepped). z.turn) (sym begins) in
    let x : q ≡ (Begin.begin p l call).seat = ap (λ (z : Stepped). z.seat) (sym begins) in
    subst (λ (k : Limits). ComesTo follows suits k call (sight_of s p v (value_in a)) (sight_of s q v (value_in a)) turn) same (record {
      turned = turned_at_once follows suits s l v (value_in a) p q call turn some t x;
      made = makes l call s s p q v v (value_in a) (value_in a) turn refl (called_at_once s l call p q v v turn some t x refl).0;
    })
