-- A line or a first line of a schedule, once written, is read back as itself, and has no line feed.
use Rattle.std.proofs.Common.{◌≡◌, ◌≤◌, ◌<◌, ◌^◌, ◌&&◌, nat_le, ℕ, true, List, [], ◌∷◌, ◌++◌, Some, refl, sym, ◌∙◌, ap, arith, tests, codes, decimal, inl, inr}
use Rattle.lfm_protocol.specs.declared.answers.Call.{Call}
use Rattle.lfm_protocol.specs.declared.answers.Call.TheVariants.{Lock, TryLock, Unlock, StartWait, SendLock, Receive}
use Rattle.lfm_core.specs.declared.text.schedule.Act.{Act}
use Rattle.lfm_core.specs.declared.text.schedule.Act.TheVariants.{Begin, Steps, ToEnd}
use Rattle.lfm_core.specs.declared.text.schedule.Line.{Line}
use Rattle.lfm_text.specs.Text.{parts_at, words_of}
use Rattle.lfm_core.specs.text.Grammar.{max_steps, act_of, line_of, header_of}
use Rattle.lfm_protocol.specs.Limits.{max_budget}
use Rattle.lfm_core.specs.text.Spelling.{act_spelling, call_spelling, line_spelling, one_step_spelling, header_spelling, short_header_spelling, IsWritableAct, IsWritable, Spells, SpellsHeader, HasShortTarget}
use Rattle.lfm_text.proofs.Numbers.{every}
use Rattle.lfm_text.proofs.Separators.{Lacks, first_part, only_part, no_space, literal_lacks, no_feed, both_lack}

-- A line of a seat and one word is read as the act that the word spells
one_word : (s : ℕ) (word : List ℕ) (a : Act) → s < 10 ^ 18 → parts_at 32 word ≡ word ∷ [] → act_of word ≡ Some a
    → line_of (words_of (decimal s ++ 32 ∷ word)) ≡ Some (record { seat = s; act = a })
one_word s word a small whole says = rw (first_part 32 (decimal s) word (no_space s small), whole, every s small, says) refl

-- A line of a seat, `send_lock` and a target is read as that call
send_words : (s t : ℕ) → s < 10 ^ 18 → t < 10 ^ 18
    → line_of (words_of (decimal s ++ 32 ∷ (codes "send_lock " ++ decimal t))) ≡ Some (record { seat = s; act = Begin (SendLock t) })
send_words s t small short =
    rw (first_part 32 (decimal s) (codes "send_lock " ++ decimal t) (no_space s small), only_part 32 (decimal t) (no_space t short), every s small, every t short) refl

steps_word : (k : ℕ) → k < 10 ^ 18 → parts_at 32 (codes "+" ++ decimal k) ≡ (codes "+" ++ decimal k) ∷ []
steps_word k small = rw (only_part 32 (decimal k) (no_space k small)) refl

steps_said : (k : ℕ) → 1 ≤ k → k ≤ max_steps → act_of (codes "+" ++ decimal k) ≡ Some (Steps k)
steps_said k low high =
    let few : (nat_le 1 k && nat_le k max_steps) ≡ true = search (tests, arith, low, high) in
    rw (every k (omega (arith, high)), few) refl

call_decodes : (s : ℕ) (call : Call) → s < 10 ^ 18 → HasShortTarget call → line_of (words_of (decimal s ++ 32 ∷ call_spelling call)) ≡ Some (record { seat = s; act = Begin call })
call_decodes s Lock small short = one_word s (codes "lock") (Begin Lock) small refl refl
call_decodes s TryLock small short = one_word s (codes "try_lock") (Begin TryLock) small refl refl
call_decodes s Unlock small short = one_word s (codes "unlock") (Begin Unlock) small refl refl
call_decodes s StartWait small short = one_word s (codes "start_wait") (Begin StartWait) small refl refl
call_decodes s (SendLock t) small short = send_words s t small short
call_decodes s Receive small short = one_word s (codes "receive") (Begin Receive) small refl refl

act_decodes : (s : ℕ) (a : Act) → s < 10 ^ 18 → IsWritableAct a → line_of (words_of (decimal s ++ 32 ∷ act_spelling a)) ≡ Some (record { seat = s; act = a })
act_decodes s (Begin call) small writable = call_decodes s call small writable
act_decodes s (Steps k) small writable =
    one_word s (codes "+" ++ decimal k) (Steps k) small (steps_word k (omega (arith, writable.1))) (steps_said k writable.0 writable.1)
act_decodes s ToEnd small writable = one_word s (codes "*") ToEnd small refl refl

-- A line that is written in full is read back
pub line_decodes : (l : Line) → IsWritable l → line_of (words_of (line_spelling l)) ≡ Some l
line_decodes l writable = act_decodes l.seat l.act writable.seat writable.act

-- A line in the other form of one step is read back
pub one_step_decodes : (s : ℕ) → s < 10 ^ 18 → line_of (words_of (one_step_spelling s)) ≡ Some (record { seat = s; act = Steps 1 })
one_step_decodes s small = one_word s (codes ".") (Steps 1) small refl refl

pub header_decodes : (n b : ℕ) → n < 10 ^ 18 → b < 10 ^ 18 → header_of (words_of (header_spelling n b)) ≡ Some (record { seats = n; budget = b })
header_decodes n b small short =
    rw (first_part 32 (decimal n) (decimal b) (no_space n small), only_part 32 (decimal b) (no_space b short), every n small, every b short) refl

pub short_header_decodes : (n : ℕ) → n < 10 ^ 18 → header_of (words_of (short_header_spelling n)) ≡ Some (record { seats = n; budget = max_budget })
short_header_decodes n small = rw (only_part 32 (decimal n) (no_space n small), every n small) refl

-- A first line is read back, in either form
pub spelled_header_decodes : (text : List ℕ) (n b : ℕ) → SpellsHeader text n b → n < 10 ^ 18 → b < 10 ^ 18 → header_of (words_of text) ≡ Some (record { seats = n; budget = b })
spelled_header_decodes text n b spells small short =
    elim spells [
      | inl full ↦ ap (λ t. header_of (words_of t)) full ∙ header_decodes n b small short
      | inr largest ↦ ap (λ t. header_of (words_of t)) largest.1 ∙ short_header_decodes n small ∙ ap (λ m. Some (record { seats = n; budget = m })) (sym largest.0)
    ]

-- A line is read back, in either form
pub spelled_decodes : (text : List ℕ) (l : Line) → Spells text l → IsWritable l → line_of (words_of text) ≡ Some l
spelled_decodes text l spells writable =
    elim spells [
      | inl full ↦ ap (λ t. line_of (words_of t)) full ∙ line_decodes l writable
      | inr short ↦ ap (λ t. line_of (words_of t)) short.1 ∙ one_step_decodes l.seat writable.seat
          ∙ ap (λ a. Some (record { seat = l.seat; act = a })) (sym short.0)
    ]

no_feed_in_call : (call : Call) → HasShortTarget call → Lacks 10 (call_spelling call)
no_feed_in_call Lock short = literal_lacks 10 (codes "lock") refl
no_feed_in_call TryLock short = literal_lacks 10 (codes "try_lock") refl
no_feed_in_call Unlock short = literal_lacks 10 (codes "unlock") refl
no_feed_in_call StartWait short = literal_lacks 10 (codes "start_wait") refl
no_feed_in_call (SendLock t) short = both_lack (codes "send_lock ") (decimal t) (literal_lacks 10 (codes "send_lock ") refl) (no_feed t short)
no_feed_in_call Receive short = literal_lacks 10 (codes "receive") refl

no_feed_in_act : (a : Act) → IsWritableAct a → Lacks 10 (act_spelling a)
no_feed_in_act (Begin call) writable = no_feed_in_call call writable
no_feed_in_act (Steps k) writable = both_lack (codes "+") (decimal k) (literal_lacks 10 (codes "+") refl) (no_feed k (omega (arith, writable.1)))
no_feed_in_act ToEnd writable = literal_lacks 10 (codes "*") refl

pub no_feed_in_line : (l : Line) → IsWritable l → Lacks 10 (line_spelling l)
no_feed_in_line l writable =
    both_lack (decimal l.seat) (codes " " ++ act_spelling l.act) (no_feed l.seat writable.seat)
    (both_lack (codes " ") (act_spelling l.act) (literal_lacks 10 (codes " ") refl) (no_feed_in_act l.act writable.act))

pub no_feed_in_header : (n b : ℕ) → n < 10 ^ 18 → b < 10 ^ 18 → Lacks 10 (header_spelling n b)
no_feed_in_header n b small short =
    both_lack (codes "seats ") (decimal n ++ (codes " " ++ decimal b)) (literal_lacks 10 (codes "seats ") refl)
    (both_lack (decimal n) (codes " " ++ decimal b) (no_feed n small) (both_lack (codes " ") (decimal b) (literal_lacks 10 (codes " ") refl) (no_feed b short)))
