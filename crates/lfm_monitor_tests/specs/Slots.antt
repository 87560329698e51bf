-- A slot and its ops.
use Rattle.std.specs.Prelude.{ℕ, Option, Some, None}
use Rattle.lfm_monitor_tests.specs.declared.slot.Slot.{Slot}
use Rattle.lfm_monitor_tests.specs.declared.slot.SlotOp.{SlotOp}
use Rattle.lfm_monitor_tests.specs.declared.slot.SlotOp.TheVariants.{Put, Take}
use Rattle.lfm_monitor_tests.specs.declared.slot.SlotReply.{SlotReply}

-- a pair is put only into an empty slot
abbrev pub put_into : Option (ℕ × ℕ) → ℕ × ℕ → Option (ℕ × ℕ)
put_into None x = Some x
put_into (Some y) x = Some y

abbrev pub put_reply : Option (ℕ × ℕ) → SlotReply
put_reply None = SlotReply.Stored
put_reply (Some y) = SlotReply.Nothing

abbrev pub take_reply : Option (ℕ × ℕ) → SlotReply
take_reply None = SlotReply.Nothing
take_reply (Some y) = SlotReply.Taken y

abbrev pub slot_after : Slot → SlotOp → Slot
slot_after s (Put x) = record { 0 = put_into s.0 x }
slot_after s Take = record { 0 = None }

abbrev pub slot_reply : Slot → SlotOp → SlotReply
slot_reply s (Put x) = put_reply s.0
slot_reply s Take = take_reply s.0
