-- A turn changes no seat except its own, and a step depends only on its seat, its word and the oldest record of the pop list.
use Rattle.std.proofs.Common.{◌≡◌, ℕ, Option, Some, None, refl, sym, ap, ◌∙◌, inl, inr}
use Rattle.std.proofs.lemmas.Bool.{cases_Bool}
use Rattle.lfm_protocol.specs.declared.kinds.Kind.{Kind}
use Rattle.lfm_protocol.specs.declared.kinds.Word.{Word}
use Rattle.lfm_words.specs.Popped.{oldest}
use Rattle.lfm_protocol.specs.Begin as Begin
use Rattle.lfm_protocol.specs.Begin.{Stepped}
use Rattle.lfm_protocol.specs.Core.{Core, limits}
use Rattle.lfm_laws.specs.laws.Steadiness.{StepsTouchOneWordAndOneSeat, BeginsTouchOneSeat, StepsSeeOneWordAndOneSeat}
use Rattle.lfm_laws.specs.laws.Touched.{SameWord, kind_of, word_by, StepTouches, LooksSame}
use Rattle.lfm_protocol.specs.Points.{kind, target}
use Rattle.lfm_protocol.specs.Seats.{seat, with_entry, is_seat}
use Rattle.lfm_protocol.specs.Step.{step_of, made}
use Rattle.lfm_laws.proofs.lawful.bounds.Leaving.{stepped_by, stepped, own_made, other_made, size_made}
use Rattle.lfm_laws.proofs.table.Made.{budget_of_step}
use Rattle.lfm_laws.proofs.lawful.touched.OneWord.{same_words, other_word, loaded_word, popped_stays}
use Rattle.lfm_laws.proofs.steady.frames.Entries.{length-with_entry, seat-with_other}
use Rattle.lfm_laws.proofs.steady.frames.Seated.{test_of_seat}

-- What a step touches

made_touches : (c : Core) (s : ℕ) → StepTouches c (made c s).core s
made_touches c s =
    let t : ℕ = target (seat c.seats s).point s in
    let k : Option Kind = kind_of c s in
    record {
      budget = budget_of_step c s;
      seats = size_made c s;
      other_seats = λ u other. other_made c s u other;
      other_words = λ w other. other_word c s t k w other;
      loaded_words = λ loads w. loaded_word c s t k w loads;
      popped = λ keeps. popped_stays c s t k keeps;
    }

nothing_touched : (c : Core) (s : ℕ) → StepTouches c c s
nothing_touched c s =
    record {
      budget = refl;
      seats = refl;
      other_seats = λ u other. refl;
      other_words = λ w other. same_words c c.popped c.seats w;
      loaded_words = λ loads w. same_words c c.popped c.seats w;
      popped = λ keeps. refl;
    }

pub steps_touch_one_word_and_one_seat : StepsTouchOneWordAndOneSeat
steps_touch_one_word_and_one_seat c s =
    elim (cases_Bool (is_seat c.seats s)) [
      | inl is ↦ rw is (made_touches c s)
      | inr none ↦ rw none (nothing_touched c s)
    ]

-- What the start of a call touches

pub begins_touch_one_seat : BeginsTouchOneSeat
begins_touch_one_seat c s call =
    elim (cases_Bool (is_seat c.seats s)) [
      | inl is ↦
          let y = (Begin.begin (seat c.seats s) (limits c) call).seat in
          rw is (record {
            budget = refl;
            seats = length-with_entry c.seats s y;
            other_seats = λ u other. seat-with_other c.seats s u y other;
            words = λ w. same_words c c.popped (with_entry c.seats s y) w;
            popped = refl;
          })
      | inr none ↦
          rw none (record {
            budget = refl;
            seats = refl;
            other_seats = λ u other. refl;
            words = λ w. same_words c c.popped c.seats w;
            popped = refl;
          })
    ]

-- What a step depends on

goes_by : (c d : Core) (s t : ℕ) (k : Option Kind) → seat d.seats s ≡ seat c.seats s → ((w : Word) → word_by t k ≡ Some w → SameWord c d w)
    → oldest d.popped ≡ oldest c.popped → stepped_by d s t k ≡ stepped_by c s t k
goes_by c d s t None own found front = rw own refl
goes_by c d s t (Some Kind.CountExchange) own found front = rw (own, found Word.Count refl) refl
goes_by c d s t (Some Kind.CountAdd) own found front = rw (own, found Word.Count refl) refl
goes_by c d s t (Some Kind.CountSubtract) own found front = rw (own, found Word.Count refl, front) refl
goes_by c d s t (Some Kind.OwnerLoad) own found front = rw (own, found Word.Owner refl) refl
goes_by c d s t (Some Kind.OwnerStore) own found front = rw own refl
goes_by c d s t (Some Kind.PushLoad) own found front = rw (own, found Word.Push refl) refl
goes_by c d s t (Some Kind.PushExchange) own found front = rw (own, found Word.Push refl) refl
goes_by c d s t (Some Kind.ClearHead) own found front = rw (own, found Word.Push refl) refl
goes_by c d s t (Some Kind.LinkLoad) own found front = rw (own, found (Word.Link t) refl) refl
goes_by c d s t (Some Kind.LinkStore) own found front = rw own refl
goes_by c d s t (Some Kind.HandoffLoad) own found front = rw (own, found Word.Handoff refl) refl
goes_by c d s t (Some Kind.HandoffStore) own found front = rw own refl
goes_by c d s t (Some Kind.HandoffExchange) own found front = rw (own, found Word.Handoff refl, front) refl
goes_by c d s t (Some Kind.WakeLoad) own found front = rw (own, found (Word.Wake t) refl) refl
goes_by c d s t (Some Kind.WakeStore) own found front = rw own refl
goes_by c d s t (Some Kind.WakeExchange) own found front = rw (own, found (Word.Wake t) refl) refl

same_stepped : (c d : Core) (s : ℕ) → LooksSame c d s → stepped d s ≡ stepped c s
same_stepped c d s sees =
    let t : ℕ = target (seat c.seats s).point s in
    let k : Option Kind = kind_of c s in
    ap (λ x. stepped_by d s (target x.point s) (kind x.point)) sees.own ∙ goes_by c d s t k sees.own sees.word sees.record_to_serve

turn_of : (c : Core) (s t : ℕ) (k : Option Kind) → (step_of c s t k).turn ≡ (stepped_by c s t k).turn
turn_of c s t None = refl
turn_of c s t (Some Kind.CountExchange) = refl
turn_of c s t (Some Kind.CountAdd) = refl
turn_of c s t (Some Kind.CountSubtract) = refl
turn_of c s t (Some Kind.OwnerLoad) = refl
turn_of c s t (Some Kind.OwnerStore) = refl
turn_of c s t (Some Kind.PushLoad) = refl
turn_of c s t (Some Kind.PushExchange) = refl
turn_of c s t (Some Kind.ClearHead) = refl
turn_of c s t (Some Kind.LinkLoad) = refl
turn_of c s t (Some Kind.LinkStore) = refl
turn_of c s t (Some Kind.HandoffLoad) = refl
turn_of c s t (Some Kind.HandoffStore) = refl
turn_of c s t (Some Kind.HandoffExchange) = refl
turn_of c s t (Some Kind.WakeLoad) = refl
turn_of c s t (Some Kind.WakeStore) = refl
turn_of c s t (Some Kind.WakeExchange) = refl

turn_made : (c : Core) (s : ℕ) → (made c s).turn ≡ (stepped c s).turn
turn_made c s = turn_of c s (target (seat c.seats s).point s) (kind_of c s)

pub steps_see_one_word_and_one_seat : StepsSeeOneWordAndOneSeat
steps_see_one_word_and_one_seat c d s is there sees =
    let same = same_stepped c d s sees in
    rw (test_of_seat c.seats s is, test_of_seat d.seats s there)
    (turn_made d s ∙ ap (λ m. m.turn) same ∙ sym (turn_made c s), own_made d s there ∙ ap (λ m. m.seat) same ∙ sym (own_made c s is))
