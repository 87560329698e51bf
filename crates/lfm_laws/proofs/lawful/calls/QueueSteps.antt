-- What one step does to the queue: a pushed record is added at its end, and a popped record was the oldest.
use Rattle.std.proofs.Common.{◌≡◌, ℕ, List, [], ◌∷◌, ◌++◌, length, sym, ap, ◌∙◌, arith}
use Rattle.std.proofs.lemmas.List.{append-nil, length-append}
use Rattle.lfm_words.specs.declared.pop_lists.Record.{Record}
use Rattle.lfm_protocol.specs.Core.{Core}
use Rattle.lfm_protocol.specs.Queue.{queue_of}
use Rattle.lfm_protocol.specs.Step.{step}
use Rattle.lfm_laws.specs.laws.Events.{pushed_by, popped_by}
use Rattle.lfm_laws.specs.laws.Schedules.{makes}
use Rattle.lfm_laws.specs.steady.Ghost.{Ghost}
use Rattle.lfm_laws.specs.steady.Steady.{Fits}
use Rattle.lfm_laws.proofs.lawful.runs.PushOrder.{queue_goes}

-- the queue before and after, and what was pushed and popped
abbrev pub Goes : List Record → List Record → List Record → List Record → Type 0
Goes before after pushes pops = before ++ (pushes ++ []) ≡ (pops ++ []) ++ after

pub queue_made : (c : Core) (g : Ghost) (s : ℕ) → Fits c g → Goes (queue_of c) (queue_of (step c s).core) (pushed_by c s) (popped_by c s)
queue_made c g s fits = queue_goes c g (makes s ∷ []) fits

pub stays : (before after pushes pops : List Record) → Goes before after pushes pops → pushes ≡ [] → pops ≡ [] → after ≡ before
stays before after pushes pops goes none unserved = sym (rw (none, unserved) at goes) ∙ append-nil before

pub serves : (before after pushes pops : List Record) (r : Record) → Goes before after pushes pops → pushes ≡ [] → pops ≡ r ∷ [] → before ≡ r ∷ after
serves before after pushes pops r goes none served = sym (append-nil before) ∙ rw (none, served) at goes

-- a step that pops nothing removes no record from the queue
pub unserved : (before after pushes pops : List Record) (r : Record) → Goes before after pushes pops → pops ≡ [] → before ≡ r ∷ after → ⊥
unserved before after pushes pops r goes none served =
    let long : length (before ++ (pushes ++ [])) ≡ length after = ap length (rw none at goes) in
    omega (arith, long, length-append before (pushes ++ []), ap length served)

pub same_head : (a b : Record) (rest : List Record) → a ∷ rest ≡ b ∷ rest → a ≡ b
same_head a b rest e = cc
