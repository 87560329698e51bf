-- A step changes no word except the one that the table of kinds names, and a load changes none.
use Rattle.std.proofs.Common.{◌≡◌, ◌≢◌, ℕ, true, false, Option, Some, None, List, refl, sym, ap}
use Rattle.std.proofs.lemmas.Bool.{false≢true}
use Rattle.lfm_protocol.specs.declared.kinds.Kind.{Kind}
use Rattle.lfm_protocol.specs.declared.kinds.Word.{Word}
use Rattle.lfm_protocol.specs.declared.seats.SeatState.{SeatState}
use Rattle.lfm_words.specs.declared.pop_lists.Record.{Record}
use Rattle.lfm_words.specs.declared.wakes.Wake.{Wake}
use Rattle.lfm_words.specs.declared.wakes.Wake.TheVariants.{Waiting, Claimed}
use Rattle.lfm_protocol.specs.Core.{Core}
use Rattle.lfm_protocol.specs.Seats.{link, wake, no_link}
use Rattle.lfm_protocol.specs.Step.{claims_word, step_of}
use Rattle.lfm_laws.specs.laws.Touched.{SameWord, word_by, only_loads, may_pop}
use Rattle.lfm_laws.proofs.steady.frames.Entries.{entry-with_other}

-- the seats and the pop list are not words
pub same_words : (c : Core) (popped : List Record) (seats : List SeatState) (w : Word) → SameWord c (record c { popped = popped; seats = seats }) w
same_words c popped seats Word.Count = refl
same_words c popped seats Word.Owner = refl
same_words c popped seats Word.Handoff = refl
same_words c popped seats Word.Push = refl
same_words c popped seats (Word.Link t) = refl
same_words c popped seats (Word.Wake t) = refl

-- An exchange of WAITING to CLAIMED, by what it finds

claims_count : (c : Core) (t : ℕ) (w : Wake) → (claims_word c t w).count ≡ c.count
claims_count c t Waiting = refl
claims_count c t _ = refl

claims_owner : (c : Core) (t : ℕ) (w : Wake) → (claims_word c t w).owner ≡ c.owner
claims_owner c t Waiting = refl
claims_owner c t _ = refl

claims_handoff : (c : Core) (t : ℕ) (w : Wake) → (claims_word c t w).handoff ≡ c.handoff
claims_handoff c t Waiting = refl
claims_handoff c t _ = refl

claims_push : (c : Core) (t : ℕ) (w : Wake) → (claims_word c t w).push ≡ c.push
claims_push c t Waiting = refl
claims_push c t _ = refl

claims_links : (c : Core) (t : ℕ) (w : Wake) → (claims_word c t w).links ≡ c.links
claims_links c t Waiting = refl
claims_links c t _ = refl

claims_popped : (c : Core) (t : ℕ) (w : Wake) → (claims_word c t w).popped ≡ c.popped
claims_popped c t Waiting = refl
claims_popped c t _ = refl

claims_wake : (c : Core) (t u : ℕ) (w : Wake) → u ≢ t → wake (claims_word c t w).wakes u ≡ wake c.wakes u
claims_wake c t u Waiting other = entry-with_other Wake.Quiet c.wakes t u Claimed other
claims_wake c t u _ other = refl

-- Each word is unchanged if the step is of a kind that touches another word

count_stays : (c : Core) (s t : ℕ) (k : Option Kind) → word_by t k ≢ Some Word.Count → (step_of c s t k).core.count ≡ c.count
count_stays c s t (Some Kind.CountExchange) other = absurd (other refl)
count_stays c s t (Some Kind.CountAdd) other = absurd (other refl)
count_stays c s t (Some Kind.CountSubtract) other = absurd (other refl)
count_stays c s t (Some Kind.WakeExchange) other = claims_count c t (wake c.wakes t)
count_stays c s t None other = refl
count_stays c s t (Some _) other = refl

owner_stays : (c : Core) (s t : ℕ) (k : Option Kind) → word_by t k ≢ Some Word.Owner → (step_of c s t k).core.owner ≡ c.owner
owner_stays c s t (Some Kind.OwnerStore) other = absurd (other refl)
owner_stays c s t (Some Kind.WakeExchange) other = claims_owner c t (wake c.wakes t)
owner_stays c s t None other = refl
owner_stays c s t (Some _) other = refl

handoff_stays : (c : Core) (s t : ℕ) (k : Option Kind) → word_by t k ≢ Some Word.Handoff → (step_of c s t k).core.handoff ≡ c.handoff
handoff_stays c s t (Some Kind.HandoffStore) other = absurd (other refl)
handoff_stays c s t (Some Kind.HandoffExchange) other = absurd (other refl)
handoff_stays c s t (Some Kind.WakeExchange) other = claims_handoff c t (wake c.wakes t)
handoff_stays c s t None other = refl
handoff_stays c s t (Some _) other = refl

push_stays : (c : Core) (s t : ℕ) (k : Option Kind) → word_by t k ≢ Some Word.Push → (step_of c s t k).core.push ≡ c.push
push_stays c s t (Some Kind.PushExchange) other = absurd (other refl)
push_stays c s t (Some Kind.ClearHead) other = absurd (other refl)
push_stays c s t (Some Kind.WakeExchange) other = claims_push c t (wake c.wakes t)
push_stays c s t None other = refl
push_stays c s t (Some _) other = refl

link_stays : (c : Core) (s t u : ℕ) (k : Option Kind) → word_by t k ≢ Some (Word.Link u) → link (step_of c s t k).core.links u ≡ link c.links u
link_stays c s t u (Some Kind.LinkStore) other =
    entry-with_other no_link c.links t u _ (λ same. other (ap (λ v. Some (Word.Link v)) (sym same)))
link_stays c s t u (Some Kind.WakeExchange) other = ap (λ links. link links u) (claims_links c t (wake c.wakes t))
link_stays c s t u None other = refl
link_stays c s t u (Some _) other = refl

wake_stays : (c : Core) (s t u : ℕ) (k : Option Kind) → word_by t k ≢ Some (Word.Wake u) → wake (step_of c s t k).core.wakes u ≡ wake c.wakes u
wake_stays c s t u (Some Kind.WakeStore) other =
    entry-with_other Wake.Quiet c.wakes t u _ (λ same. other (ap (λ v. Some (Word.Wake v)) (sym same)))
wake_stays c s t u (Some Kind.WakeExchange) other =
    claims_wake c t u (wake c.wakes t) (λ same. other (ap (λ v. Some (Word.Wake v)) (sym same)))
wake_stays c s t u None other = refl
wake_stays c s t u (Some _) other = refl

pub other_word : (c : Core) (s t : ℕ) (k : Option Kind) (w : Word) → word_by t k ≢ Some w → SameWord c (step_of c s t k).core w
other_word c s t k Word.Count other = count_stays c s t k other
other_word c s t k Word.Owner other = owner_stays c s t k other
other_word c s t k Word.Handoff other = handoff_stays c s t k other
other_word c s t k Word.Push other = push_stays c s t k other
other_word c s t k (Word.Link u) other = link_stays c s t u k other
other_word c s t k (Word.Wake u) other = wake_stays c s t u k other

-- a load changes no word
pub loaded_word : (c : Core) (s t : ℕ) (k : Option Kind) (w : Word) → only_loads k ≡ true → SameWord c (step_of c s t k).core w
loaded_word c s t None w loads = let m = step_of c s t None in same_words c m.core.popped m.core.seats w
loaded_word c s t (Some Kind.OwnerLoad) w loads = let m = step_of c s t (Some Kind.OwnerLoad) in same_words c m.core.popped m.core.seats w
loaded_word c s t (Some Kind.PushLoad) w loads = let m = step_of c s t (Some Kind.PushLoad) in same_words c m.core.popped m.core.seats w
loaded_word c s t (Some Kind.LinkLoad) w loads = let m = step_of c s t (Some Kind.LinkLoad) in same_words c m.core.popped m.core.seats w
loaded_word c s t (Some Kind.HandoffLoad) w loads = let m = step_of c s t (Some Kind.HandoffLoad) in same_words c m.core.popped m.core.seats w
loaded_word c s t (Some Kind.WakeLoad) w loads = let m = step_of c s t (Some Kind.WakeLoad) in same_words c m.core.popped m.core.seats w
loaded_word c s t (Some _) w loads = absurd (false≢true loads)

-- the pop list is unchanged if the kind may not pop
pub popped_stays : (c : Core) (s t : ℕ) (k : Option Kind) → may_pop k ≡ false → (step_of c s t k).core.popped ≡ c.popped
popped_stays c s t None keeps = refl
popped_stays c s t (Some Kind.LinkLoad) keeps = absurd (false≢true (sym keeps))
popped_stays c s t (Some Kind.OwnerStore) keeps = absurd (false≢true (sym keeps))
popped_stays c s t (Some Kind.WakeStore) keeps = absurd (false≢true (sym keeps))
popped_stays c s t (Some Kind.WakeExchange) keeps = claims_popped c t (wake c.wakes t)
popped_stays c s t (Some _) keeps = refl
