-- A state that a ghost fits reads as the ghost's abstract mutex, and as no other.
use Rattle.std.proofs.Common.{◌≡◌, ◌≢◌, ◌⊎◌, Bool, true, false, refl, sym, ap, ◌∙◌, inl, inr}
use Rattle.lfm_model.specs.Abstract.{AbstractMutex, AbstractPlace, free, owner, passed, posted, carried}
use Rattle.lfm_model.specs.AbstractRuns.{IsSame}
use Rattle.lfm_protocol.specs.Core.{Core}
use Rattle.lfm_laws.specs.steady.Ghost.{Responsibility, owned, Ghost}
use Rattle.lfm_laws.specs.laws.Lawful.{owning_seat}
use Rattle.lfm_laws.specs.steady.EventOutcome.{abstract, abstract_place}
use Rattle.lfm_laws.specs.laws.Reading.{ReadsPlace, seats_of, Reads}
use Rattle.lfm_laws.specs.steady.Steady.{owner_of, Fits}
use Rattle.lfm_laws.proofs.lawful.read.AskingRead.{asks_read, asked_read}
use Rattle.lfm_laws.proofs.lawful.read.ClaimsRead.{reads_place}
use Rattle.lfm_laws.proofs.lawful.read.QueueRead.{queue_read}

pub reads_ghost : (c : Core) (g : Ghost) → Fits c g → Reads c (abstract g)
reads_ghost c g fits =
    record {
      place = reads_place c g fits;
      asks = asks_read c g fits;
      asked = asked_read c g fits;
      waiting = sym (ap seats_of (queue_read c g fits));
    }

free_or : (p : AbstractPlace) → (p ≡ free) ⊎ (p ≢ free)
free_or free = inl refl
free_or (owner s) = inr (λ e. cc)
free_or (passed s) = inr (λ e. cc)
free_or posted = inr (λ e. cc)
free_or (carried s how) = inr (λ e. cc)

-- a state claims one place, or claims none and is free
one_place : (c : Core) (p q : AbstractPlace) → ReadsPlace c p → ReadsPlace c q → q ≡ p
one_place c p q first second =
    elim (free_or q) [
      | inl none ↦ elim (free_or p) [
        | inl none_either ↦ none ∙ sym none_either
        | inr some ↦ sym (second.only p (first.some some))
      ]
      | inr some ↦ first.only q (second.some some)
    ]

same_truth : (a b : Bool) → (a ≡ true → b ≡ true) → (b ≡ true → a ≡ true) → b ≡ a
same_truth a true forth back = sym (back refl)
same_truth true false forth back = forth refl
same_truth false false forth back = refl

-- two readings of one state are the same
pub reads_once : (c : Core) (a b : AbstractMutex) → Reads c a → Reads c b → IsSame a b
reads_once c a b first second =
    record {
      place = one_place c a.place b.place first.place second.place;
      asking = λ x. same_truth (a.asking x) (b.asking x) (λ e. second.asked x (first.asks x e)) (λ e. first.asked x (second.asks x e));
      waiting = second.waiting ∙ sym first.waiting;
    }

owner_told : (place : Responsibility) → owner_of place ≡ owning_seat (abstract_place place)
owner_told (owned s again) = refl
owner_told _ = refl

pub owner_read : (c : Core) (g : Ghost) → Fits c g → c.owner ≡ owning_seat (abstract_place g.place)
owner_read c g fits = fits.words.owner ∙ owner_told g.place
