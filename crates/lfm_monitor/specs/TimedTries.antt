-- Ops that are applied again and again until the reply is accepted or a time is over, with a wait on a plain condition before
-- each further try.
use Rattle.std.specs.Prelude.{◌≡◌, ◌⊎◌, ℕ, zero, suc, Bool, true, false, Result, Ok, Err}
use Rattle.lfm_model.specs.declared.answers.How.{How}
use Rattle.lfm_model.specs.declared.refusals.Refusal.{Refusal}
use Rattle.lfm_plain_condvar.specs.declared.wait_for.Waited.{Waited}
use Rattle.lfm_monitor.specs.declared.apply_until_for.LastReply.{LastReply}
use Rattle.lfm_monitor.specs.declared.apply_until_for.LastReply.TheVariants.{Accepted, TimedOut}
use Rattle.lfm_monitor.specs.declared.monitor.Monitor.{Monitor}
use Rattle.lfm_monitor.specs.declared.pass.Pass.{Pass}
use Rattle.lfm_monitor.specs.Belongs.{OfMonitor, mine_of, pass_sight, seen_of}
use Rattle.lfm_monitor.specs.Conditions.{WaitReturns}
use Rattle.lfm_monitor.specs.PlainConditions.{ticket_of}
use Rattle.lfm_monitor.specs.Tries.{Tries, WaitsWithin}

-- whether the wait took itself off the list, since its time was over
abbrev pub has_timed_out : Waited → Bool
has_timed_out (Waited.Woken ticket) = false
has_timed_out (Waited.TimedOut ticket) = true

-- the last reply, and whether it was accepted
abbrev pub reply_in : {A : Type 0} → LastReply A → A
reply_in (Accepted r) = r
reply_in (TimedOut r) = r

abbrev pub is_accepted : {A : Type 0} → LastReply A → Bool
is_accepted (Accepted r) = true
is_accepted (TimedOut r) = false

module _ {O A R : Type 0} {K : _} where
  -- how a wait of the pass with a time limit ended
  abbrev pub TimedWaits : Monitor O A R K → ℕ → Pass O A R K → Pass O A R K → Result (How × Waited) Refusal → Type 0
  TimedWaits m condition p q r = WaitsWithin m condition p q r × WaitReturns (pass_sight p) (pass_sight q) (seen_of p) (seen_of q) (mine_of p) (mine_of q) (ticket_of r)

module _ {O A R : Type 0} {K : _} (after : O → A → O) (reply : O → A → R) (m : Monitor O A R K) (condition : ℕ) (op : A) (says : R → Bool → Type 0) where
  -- a failed try: the pass applied the op, its reply was not accepted, and the pass waited on the condition. `over`: whether
  -- that wait timed out
  pub record FailedTryWithin (p q : Pass O A R K) (over : Bool) : Type 0 where
    pub tried : Pass O A R K
    pub replied : R
    pub waited : How × Waited
    pub tries : Tries after reply m op p tried (Ok replied)
    pub other : says replied false
    pub waits : TimedWaits m condition tried q (Ok waited)
    pub ends : over ≡ has_timed_out waited.1

  -- the pass was p before this number of failed tries, and q after them. `over`: whether the wait of the last of them timed
  -- out. No earlier one did
  abbrev pub FailedTriesWithin : ℕ → Pass O A R K → Pass O A R K → Bool → Type 0
  FailedTriesWithin zero p q over = (q ≡ p) × (over ≡ false)
  FailedTriesWithin (suc n) p q over = (l : Pass O A R K) × FailedTriesWithin n p l false × FailedTryWithin l q over

  -- How the last try ended. Its reply is accepted, or it is not and the wait before it timed out. Or the try was refused, or
  -- the wait after it
  abbrev pub LastEndsWithin : Pass O A R K → Pass O A R K → Bool → Result (LastReply R) Refusal → Type 0
  LastEndsWithin p q over (Ok (Accepted r)) = Tries after reply m op p q (Ok r) × says r true
  LastEndsWithin p q over (Ok (TimedOut r)) = Tries after reply m op p q (Ok r) × says r false × (over ≡ true)
  LastEndsWithin p q over (Err r) =
      Tries after reply m op p q (Err r) ⊎ ((tried : Pass O A R K) × (replied : R) × Tries after reply m op p tried (Ok replied) × says replied false × (over ≡ false) × TimedWaits m condition tried q (Err r))

  -- some failed tries, and the last one
  abbrev pub ApplyUntilForEnds : Pass O A R K → Pass O A R K → Result (LastReply R) Refusal → Type 0
  ApplyUntilForEnds p q r = (n : ℕ) × (over : Bool) × (last : Pass O A R K) × OfMonitor last m × FailedTriesWithin n p last over × LastEndsWithin last q over r
