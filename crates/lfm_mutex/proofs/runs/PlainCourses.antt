-- Courses of steps that grant no seat the mutex, one step after another.
use Rattle.std.proofs.Common.{◌≡◌, ◌≢◌, ℕ, Option, None, refl, ap, ◌∙◌, length}
use Rattle.std.specs.Prelude.{false}
use Rattle.lfm_table.specs.Table.{Me}
use Rattle.lfm_protocol.specs.declared.answers.Turn.{Turn}
use Rattle.lfm_protocol.specs.declared.answers.Turn.TheVariants.{Open}
use Rattle.lfm_protocol.specs.declared.limits.Limits.{Limits}
use Rattle.lfm_protocol.specs.declared.seats.SeatState.{SeatState}
use Rattle.lfm_protocol.specs.Begin.{Stepped}
use Rattle.lfm_protocol.specs.Points.{kind}
use Rattle.lfm_laws.specs.table.Words.{stepped_by}
use Rattle.lfm_table.specs.declared.rule.Moving.{Moving}
use Rattle.lfm_table.specs.declared.seat_view.View.{View}
use Rattle.lfm_table.specs.Grants.{granted_at}
use Rattle.lfm_table.specs.Steps.{oldest_in}
use Rattle.lfm_table.specs.FastPath.{Fit, MadeStep}
use Rattle.lfm_mutex.specs.calls.Due.{due}
use Rattle.lfm_mutex.specs.calls.Pushes.{PlainCourse}
use Rattle.lfm_mutex.specs.calls.Runs.{is_release}
use Rattle.lfm_mutex.proofs.runs.Courses.{course_none, course_next, course_join}
use Rattle.lfm_mutex.proofs.runs.Spending.{spends_none, spends_join, spends_more}
use Rattle.lfm_mutex.proofs.runs.FastPathPoints.{fit_after, event_there}
use Rattle.lfm_mutex.proofs.runs.WakeUps.{grants_none}

-- the seat after such a course, with the facts that it keeps
pub record PlainSteps {T : Type 0} (follows : ℕ → T → T → Type 0) (suits : T → ℕ → Type 0) (s : ℕ) (l : Limits) (p0 : SeatState) (a0 : Option (Moving T)) (v0 : View T) (turn : Turn) (p : SeatState) (a : Option (Moving T)) (m : Me (Option (Moving T)) (View T)) : Type 0 where
  pub words : ℕ
  pub id : ℕ
  pub fit : Fit s words id l p m a
  pub plain : PlainCourse follows suits s l.seats p0 a0 v0 turn p a m.0

-- no step yet
pub plain_none : {T : Type 0} (follows : ℕ → T → T → Type 0) (suits : T → ℕ → Type 0) {s words id : ℕ} {l : Limits} {p : SeatState} {a : Option (Moving T)} {m : Me (Option (Moving T)) (View T)} → Fit s words id l p m a → PlainSteps follows suits s l p a m.0 Open p a m
plain_none {T} follows suits {s} {words} {id} {l} {p} {a} {m} fit = record {
  words = words;
  id = id;
  fit = fit;
  plain = record { course = course_none follows suits s p a m.0; spends = spends_none (due l.seats (length m.0.popped) p.point) m.0.trail; grants = refl };
}

-- one more step
pub plain_next : {T : Type 0} {follows : ℕ → T → T → Type 0} {suits : T → ℕ → Type 0} {s words id n : ℕ} {l : Limits} {p0 p : SeatState} {a0 a b : Option (Moving T)} {v0 : View T} {m m' : Me (Option (Moving T)) (View T)} (st : Stepped)
    → PlainSteps follows suits s l p0 a0 v0 Open p a m → MadeStep follows suits s words id l p n m a m' b → stepped_by p s n (oldest_in b) ≡ st → kind p.point ≢ None → is_release p.point ≡ false → granted_at p.point ≡ None
    → PlainSteps follows suits s l p0 a0 v0 st.turn st.seat b m'
plain_next {T} {follows} {suits} {s} {words} {id} {n} {l} {p0} {p} {a0} {a} {b} {v0} {m} {m'} st so did is some keeps none =
    let e = event_there follows suits s words id l p n m a m' b did st is in record {
      words = words;
      id = id;
      fit = fit_after follows suits s words id l p n m a m' b did st is;
      plain = record {
        course = course_next follows suits s p0 a0 v0 so.words so.id l p n m a m' b words id st so.plain.course so.fit did is some keeps;
        spends = spends_join (due l.seats (length v0.popped) p0.point) (due l.seats (length m.0.popped) p.point) (due l.seats (length m'.0.popped) st.seat.point) v0.trail m.0.trail m'.0.trail so.plain.spends
            (spends_more follows suits p st.seat m.0 m'.0 a b st.turn e l.seats s some (ap (λ (k : Limits). k.seats) so.fit.seated.limits_are) so.fit.ready);
        grants = grants_none follows suits p st.seat m.0 m'.0 a b st.turn e none ∙ so.plain.grants;
      };
    }

-- one course after another
pub plain_join : {T : Type 0} {follows : ℕ → T → T → Type 0} {suits : T → ℕ → Type 0} {s seats : ℕ} {p0 p q : SeatState} {a0 a b : Option (Moving T)} {v0 v w : View T} {turn : Turn}
    → PlainCourse follows suits s seats p0 a0 v0 Open p a v → PlainCourse follows suits s seats p a v turn q b w → PlainCourse follows suits s seats p0 a0 v0 turn q b w
plain_join {T} {follows} {suits} {s} {seats} {p0} {p} {q} {a0} {a} {b} {v0} {v} {w} {turn} first then = record {
  course = course_join follows suits s p0 a0 v0 p q a b v w turn first.course then.course;
  spends = spends_join (due seats (length v0.popped) p0.point) (due seats (length v.popped) p.point) (due seats (length w.popped) q.point) v0.trail v.trail w.trail first.spends then.spends;
  grants = then.grants ∙ first.grants;
}
