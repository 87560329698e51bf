-- The order of a run: records leave the queue in the order of their pushes, stamps rise by 1, and answers follow the pops.
use Rattle.std.proofs.Common.{◌≡◌, ◌⊎◌, ℕ, zero, suc, Bool, true, false, cond, eqb, ◌+◌, ◌-◌, ◌<◌, ◌≤◌, List, [], ◌∷◌, ◌++◌, length, get_or, refl, sym, ap, ◌∙◌, append_assoc, inl, inr, arith}
use Rattle.std.proofs.lemmas.List.{append_cancel_left, get_or-append-add, length-append}
use Rattle.lfm_words.specs.declared.pop_lists.Record.{Record}
use Rattle.lfm_protocol.specs.Core.{Core}
use Rattle.lfm_laws.specs.steady.Ghost.{Responsibility, nobody, owned, granted, posted, entering, accepting, leaving, serving, Ghost}
use Rattle.lfm_laws.specs.laws.Laws.{QueueIsInPushOrder, StampsAreConsecutive, AnswersAreTheRecords}
use Rattle.lfm_laws.specs.steady.Numbered.{records}
use Rattle.lfm_laws.specs.steady.EventOutcome.{GoesOn, queue_of_ghost}
use Rattle.lfm_protocol.specs.Queue.{queue_of}
use Rattle.lfm_laws.specs.laws.Schedules.{Event, run_of, push_record, popped_record, answer_record}
use Rattle.lfm_laws.specs.steady.Steady.{Fits, unanswered}
use Rattle.lfm_protocol.specs.Step.{start}
use Rattle.lfm_laws.proofs.steady.frames.Histories.{records_append, records_snoc}
use Rattle.lfm_laws.proofs.lawful.read.QueueRead.{queue_read}
use Rattle.lfm_laws.proofs.lawful.runs.Reached.{steady_reached}
use Rattle.lfm_laws.proofs.lawful.runs.RunLaws.{run_goes}
use Rattle.lfm_laws.proofs.lawful.read.RecordsRead.{length-records}

-- Records by stamp

stamp_of_record : (f : ℕ → ℕ) (last n i : ℕ) (d : Record) → i < n → (get_or (records f last n) i d).stamp ≡ last + i + 1
stamp_of_record f last zero i d within = absurd (omega arith)
stamp_of_record f last (suc n) zero d within = omega arith
stamp_of_record f last (suc n) (suc i) d within = omega (arith, stamp_of_record f (last + 1) n i d (omega arith))

-- the pushed records are those that have left the queue followed by those in it
popped_and_queued : (g : Ghost) → g.popped ≤ g.pushed → records g.pushed_at 0 g.pushed ≡ records g.pushed_at 0 g.popped ++ queue_of_ghost g
popped_and_queued g most =
    let parts : g.popped + (g.pushed - g.popped) ≡ g.pushed = omega arith in
    let none : 0 + g.popped ≡ g.popped = omega arith in
    rw (parts, none) at (records_append g.pushed_at 0 g.popped (g.pushed - g.popped))

-- The queue

-- both sides follow the records that were popped before
in_order : (g h : Ghost) (pushes pops answers : List Record) → GoesOn g h pushes pops answers → g.popped ≤ g.pushed → h.popped ≤ h.pushed
    → queue_of_ghost g ++ pushes ≡ pops ++ queue_of_ghost h
in_order g h pushes pops answers on most within =
    let out : List Record = records g.pushed_at 0 g.popped in
    append_cancel_left out (queue_of_ghost g ++ pushes) (pops ++ queue_of_ghost h)
    (sym (append_assoc out (queue_of_ghost g) pushes)
    ∙ ap (λ l. l ++ pushes) (sym (popped_and_queued g most))
    ∙ sym on.pushed
    ∙ popped_and_queued h within
    ∙ ap (λ l. l ++ queue_of_ghost h) on.popped
    ∙ append_assoc out pops (queue_of_ghost h))

pub queue_goes : (c : Core) (g : Ghost) (events : List Event) → Fits c g → queue_of c ++ push_record c events ≡ popped_record c events ++ queue_of (run_of c events)
queue_goes c g events fits =
    let run = run_goes c g events fits in
    rw (queue_read c g fits, queue_read (run_of c events) run.to run.fits)
    (in_order g run.to (push_record c events) (popped_record c events) (answer_record c events) run.history
    (omega (arith, fits.words.parts)) (omega (arith, run.fits.words.parts)))

pub queue_is_in_push_order : QueueIsInPushOrder
queue_is_in_push_order c events is = let steady = is in queue_goes c steady.ghost_state events steady.fits

-- The stamps

stamps_go : (g h : Ghost) (pushes pops answers : List Record) → GoesOn g h pushes pops answers → (k : ℕ) (d : Record) → k < length pushes
    → (get_or pushes k d).stamp ≡ g.pushed + (k + 1)
stamps_go g h pushes pops answers on k d within =
    let old : List Record = records g.pushed_at 0 g.pushed in
    let before : length old ≡ g.pushed = length-records g.pushed_at 0 g.pushed in
    let after : length (records h.pushed_at 0 h.pushed) ≡ h.pushed = length-records h.pushed_at 0 h.pushed in
    let grown : length (records h.pushed_at 0 h.pushed) ≡ length old + length pushes = ap length on.pushed ∙ length-append old pushes in
    let here : get_or (records h.pushed_at 0 h.pushed) (length old + k) d ≡ get_or pushes k d =
    ap (λ l. get_or l (length old + k) d) on.pushed ∙ get_or-append-add old pushes k d in
    let stamp : (get_or (records h.pushed_at 0 h.pushed) (length old + k) d).stamp ≡ 0 + (length old + k) + 1 =
    stamp_of_record h.pushed_at 0 h.pushed (length old + k) d (omega arith) in
    ap (λ (r : Record). r.stamp) (sym here) ∙ stamp ∙ omega arith

pub stamps_are_consecutive : StampsAreConsecutive
stamps_are_consecutive c events is k d within =
    let steady = is in
    let run = run_goes c steady.ghost_state events steady.fits in
    let stamp = stamps_go steady.ghost_state run.to (push_record c events) (popped_record c events) (answer_record c events) run.history k d within in
    omega (arith, stamp, steady.fits.words.stamp)

-- The answers

zero_or_one : (b : Bool) → (cond {A = ℕ} b 0 1 ≡ 0) ⊎ (cond {A = ℕ} b 0 1 ≡ 1)
zero_or_one true = inl refl
zero_or_one false = inr refl

-- at most one popped record has a seat that does not hold yet
one_unanswered : (place : Responsibility) → (unanswered place ≡ 0) ⊎ (unanswered place ≡ 1)
one_unanswered nobody = inl refl
one_unanswered (owned s again) = inl refl
one_unanswered (granted s stamp) = zero_or_one (eqb stamp 0)
one_unanswered posted = inl refl
one_unanswered (entering s into stamp) = zero_or_one (eqb stamp 0)
one_unanswered (accepting s) = inl refl
one_unanswered (leaving s) = inl refl
one_unanswered (serving s) = inl refl

answers_go : (g h : Ghost) (pushes pops answers : List Record) → GoesOn g h pushes pops answers → g.popped ≡ 0 → g.answered ≡ 0 → h.answered + unanswered h.place ≡ h.popped
    → (pops ≡ answers) ⊎ ((last : Record) × (pops ≡ answers ++ last ∷ []))
answers_go g h pushes pops answers on none unheard follow =
    let out : records h.pushed_at 0 h.popped ≡ pops = rw none at on.popped in
    let heard : records h.pushed_at 0 h.answered ≡ answers = rw unheard at on.answered in
    elim (one_unanswered h.place) [
      | inl level ↦
          let same : h.popped ≡ h.answered = omega arith in
          inl (sym out ∙ ap (records h.pushed_at 0) same ∙ heard)
      | inr waits ↦
          let more : h.popped ≡ h.answered + 1 = omega arith in
          let last : Record = record { seat = h.pushed_at (0 + h.answered + 1); stamp = 0 + h.answered + 1 } in
          inr (last, sym out ∙ ap (records h.pushed_at 0) more ∙ records_snoc h.pushed_at 0 h.answered ∙ ap (λ l. l ++ last ∷ []) heard)
    ]

pub answers_are_the_records : AnswersAreTheRecords
answers_are_the_records limits events few =
    let steady = steady_reached (start limits) (record { limits = limits; events = []; few = few; here = refl }) in
    let words = steady.fits.words in
    let run = run_goes (start limits) steady.ghost_state events steady.fits in
    answers_go steady.ghost_state run.to _ _ _ run.history (omega (arith, words.stamp, words.parts)) (omega (arith, words.stamp, words.parts, words.answers)) run.fits.words.answers
