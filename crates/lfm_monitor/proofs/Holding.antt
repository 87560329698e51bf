-- Holds that are given up one after another.
use Rattle.std.proofs.Common.{◌≡◌, ℕ, ◌+◌, ◌<◌, Result, Ok, Err, inl, refl, sym, ◌∙◌, ap, arith}
use Rattle.lfm_model.specs.declared.answers.Unlocked.{Unlocked}
use Rattle.lfm_model.specs.declared.refusals.Refusal.{Refusal}
use Rattle.lfm_mutex.specs.calls.Sight.{Sight}
use Rattle.lfm_monitor.specs.declared.journaled.Journaled.{Journaled}
use Rattle.lfm_monitor.specs.declared.monitor.Monitor.{Monitor}
use Rattle.lfm_monitor.specs.declared.pass.Pass.{Pass}
use Rattle.lfm_mutex.proofs.runs.RunGoesOn.{run_next, run_same}
use Rattle.lfm_mutex.proofs.runs.Woken.{woken_join, woken_none}
use Rattle.lfm_monitor.specs.Belongs.{PassRunGoesOnFrom, PassWokenAsGranted, SameCondSeats, mine_of, pass_sight, seen_of}
use Rattle.lfm_monitor.specs.Passes.{LeaveEnds, journal_of}
use Rattle.lfm_monitor.specs.Sections.{GivesUp, HoldEnds, Holds}

module _ {O A R : Type 0} {K : _} where
  -- how a leave that is not refused changes a pass
  pub record LeavesOne (s t : Sight (Journaled O A R K)) (seen seen' : ℕ) : Type 0 where
    pub depth : s.depth ≡ t.depth + 1
    pub number : t.number ≡ s.number
    pub takes : t.takes ≡ s.takes
    pub asleep : t.asleep ≡ s.asleep
    pub sends : t.sends ≡ s.sends
    pub journal : journal_of t ≡ journal_of s
    pub still : 0 < t.depth → seen' ≡ seen

  still_holds : (d : ℕ) (s t : Sight (Journaled O A R K)) (seen seen' : ℕ) → LeaveEnds s t seen seen' (Ok (Unlocked.Still d)) → LeavesOne s t seen seen'
  still_holds d s t seen seen' h = let e = h.3 in record {
    depth = h.2 ∙ ap (λ (u : Sight (Journaled O A R K)). u.depth + 1) (sym e);
    number = ap (λ (u : Sight (Journaled O A R K)). u.number) e;
    takes = ap (λ (u : Sight (Journaled O A R K)). u.takes) e;
    asleep = ap (λ (u : Sight (Journaled O A R K)). u.asleep) e;
    sends = ap (λ (u : Sight (Journaled O A R K)). u.sends) e;
    journal = ap (λ (u : Sight (Journaled O A R K)). journal_of u) e;
    still = λ _. h.4;
  }

  given_back : (s t : Sight (Journaled O A R K)) (seen seen' : ℕ) → LeaveEnds s t seen seen' (Ok Unlocked.Free) → LeavesOne s t seen seen'
  given_back s t seen seen' h = let out = h.2 in record {
    depth = h.1 ∙ ap (λ n. n + 1) (sym h.2);
    number = h.3;
    takes = h.4;
    asleep = h.5 ∙ sym h.0;
    sends = h.6;
    journal = h.7;
    still = λ deep. absurd (omega arith);
  }

  pub leaves_one : (u : Unlocked) (s t : Sight (Journaled O A R K)) (seen seen' : ℕ) → LeaveEnds s t seen seen' (Ok u) → LeavesOne s t seen seen'
  leaves_one (Unlocked.Still d) s t seen seen' h = still_holds d s t seen seen' h
  leaves_one Unlocked.Free s t seen seen' h = given_back s t seen seen' h
  leaves_one (Unlocked.Granted k) s t seen seen' h = given_back s t seen seen' h
  leaves_one Unlocked.Posted s t seen seen' h = given_back s t seen seen' h
  leaves_one Unlocked.TakenOver s t seen seen' h = given_back s t seen seen' h

  pub gives_up_none : (p : Pass O A R K) → GivesUp p p
  gives_up_none p = record { no_more = omega arith; number = refl; takes = refl; asleep = refl; sends = refl; journal = refl; woken = woken_none p.seat p.seat refl refl; run = run_same; seen = λ _. refl; mine = refl; cond_seats = (refl, refl) }

  -- some holds were given up, and then one more
  pub gives_up_one : (p m q : Pass O A R K) → GivesUp p m → LeavesOne (pass_sight m) (pass_sight q) (seen_of m) (seen_of q) → mine_of q ≡ mine_of m → SameCondSeats m q → PassWokenAsGranted m q → PassRunGoesOnFrom m q → GivesUp p q
  gives_up_one p m q before one mine cond_seats woken run = let few = before.no_more in let less = one.depth in record {
    no_more = omega arith;
    number = one.number ∙ before.number;
    takes = one.takes ∙ before.takes;
    asleep = one.asleep ∙ before.asleep;
    sends = one.sends ∙ before.sends;
    journal = one.journal ∙ before.journal;
    woken = woken_join p.seat m.seat q.seat before.woken woken;
    run = run_next before.run run;
    seen = λ deep. one.still deep ∙ before.seen (omega arith);
    mine = mine ∙ before.mine;
    cond_seats = (cond_seats.0 ∙ before.cond_seats.0, cond_seats.1 ∙ before.cond_seats.1);
  }

module _ {O A R U : Type 0} {K : _} (m : Monitor O A R K) (makes : Pass O A R K → Pass O A R K → Result U Refusal → Type 0) where
  -- a section was executed, so `hold` ends with its result, whatever it is
  pub held : (p q : Pass O A R K) (r : Result U Refusal) → Holds m makes p q r → HoldEnds m makes p q r
  held p q (Ok x) h = h
  held p q (Err r) h = inl h
