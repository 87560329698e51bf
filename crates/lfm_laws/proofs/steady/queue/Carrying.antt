-- A carrier clears the push list, or collects one record of the cleared list: records move between the push list, the cleared
-- list and the pop list, and no other seat sees anything of it.
use Rattle.std.proofs.Common.{◌≡◌, ◌≢◌, ◌⊎◌, ℕ, ◌+◌, ◌≤◌, ◌<◌, List, length, refl, sym, ◌∙◌, inl, inr, arith}
use Rattle.lfm_protocol.specs.declared.seats.SeatState.{SeatState}
use Rattle.lfm_words.specs.declared.links.Link.{Link}
use Rattle.lfm_words.specs.declared.pop_lists.Record.{Record}
use Rattle.lfm_words.specs.declared.wakes.Wake.{Wake}
use Rattle.lfm_protocol.specs.Core.{Core, put}
use Rattle.lfm_laws.specs.steady.Ghost.{nobody, posted, serving, Ghost}
use Rattle.lfm_laws.specs.steady.Numbered.{records}
use Rattle.lfm_protocol.specs.Seats.{seat, wake, IsSeat}
use Rattle.lfm_laws.specs.steady.Steady.{IsSeen, SeatFits, newest, StampFits, Fits}
use Rattle.lfm_laws.proofs.steady.frames.Entries.{length-with_entry}
use Rattle.lfm_laws.proofs.steady.frames.Frames.{Sees, SeatFits_seen, Errands, each_after, agents_after, IsSeat_after, IsOld_after, held_by-other, sizes_after}

-- the state with this head of the push list and this pop list
abbrev pub carried_core : Core → ℕ → List Record → Core
carried_core c head popped = record c { push = record { stamp = c.push.stamp; next = head }; popped = popped }

-- the ghost with this number of records still to be collected
abbrev pub walking : Ghost → ℕ → Ghost
walking g walk = record g { walk = walk }

-- seat s serves and goes on with state y; the parts of the queue are then these
pub record Carries (c : Core) (g : Ghost) (s : ℕ) (y : SeatState) (head walk : ℕ) (popped : List Record) : Type 0 where
  pub errands : Errands c s y
  pub serves : g.place ≡ serving s
  pub head_or_none : (head ≡ c.push.next) ⊎ (head ≡ 0)
  pub newest_head : head ≡ newest (g.popped + walk + length popped) g.pushed g.pushed_at
  pub parts : g.popped + walk + length popped ≤ g.pushed
  pub listed : popped ≡ records g.pushed_at (g.popped + walk) (length popped)
  pub stamps : (stamp : ℕ) → g.popped < stamp → stamp ≤ g.pushed → StampFits (carried_core c head popped) (walking g walk) stamp
  pub own : SeatFits (carried_core c head popped) (walking g walk) s y (wake c.wakes s)

-- the head that was seen stays or is cleared
seen_after : (stamp next head : ℕ) → (head ≡ next) ⊎ (head ≡ 0) → (l : Link) → IsSeen (record { stamp = stamp; next = next }) l → IsSeen (record { stamp = stamp; next = head }) l
seen_after stamp next head here l seen =
    record {
      older = seen.older;
      same = λ e. elim here [
        | inl stays ↦ rw stays (seen.same e)
        | inr gone ↦ inr gone
      ];
    }

pub nobody_serves : (t : ℕ) → nobody ≢ serving t
nobody_serves t e = cc

pub serving_unposted : (s : ℕ) → serving s ≢ posted
serving_unposted s e = cc

-- another seat sees nothing of it
carries_unseen : (c : Core) (g : Ghost) (s : ℕ) (y : SeatState) (head walk : ℕ) (popped : List Record) (t : ℕ) (x : SeatState) → IsSeat c.seats s
    → y.posts ≡ (seat c.seats s).posts → g.place ≡ serving s → (head ≡ c.push.next) ⊎ (head ≡ 0) → t ≢ s
    → Sees c (put (carried_core c head popped) s y) g (walking g walk) t x
carries_unseen c g s y head walk popped t x is posts serves here other =
    record {
      held = refl;
      grant = refl;
      entered = refl;
      standing = refl;
      listed = λ stamp stands q. record { above = q.above; within = q.within; here = q.here };
      errand = λ u e. e;
      errand_link = λ u e. refl;
      claim = λ u e. e;
      seats = λ u. IsSeat_after c s u y;
      old = λ n. IsOld_after c s y n is (omega (arith, posts));
      number = λ e above. refl;
      head = λ n within stays. stays;
      seen = seen_after c.push.stamp c.push.next head here;
      carrier = λ e. let none = held_by-other g.place s t (rw serves refl) other in let f : nobody ≡ serving t = sym none ∙ e in absurd (nobody_serves t f);
      budget = refl;
      pushes = refl;
      watches = λ before e. absurd (serving_unposted s (sym serves ∙ e));
    }

-- the facts of seat s with state y hold after y is written if they hold before the write
carries_own : (e : Core) (h : Ghost) (s : ℕ) (y : SeatState) (w : Wake) → IsSeat e.seats s → y.posts ≡ (seat e.seats s).posts → h.place ≡ serving s
    → SeatFits e h s y w → SeatFits (put e s y) h s y w
carries_own e h s y w is posts serves own =
    SeatFits_seen e (put e s y) h h s y w (omega (arith, posts)) (record {
      held = refl;
      grant = refl;
      entered = refl;
      standing = refl;
      listed = λ stamp stands q. q;
      errand = λ u f. f;
      errand_link = λ u f. refl;
      claim = λ u f. f;
      seats = λ u. IsSeat_after e s u y;
      old = λ n. IsOld_after e s y n is (omega (arith, posts));
      number = λ f above. refl;
      head = λ n within stays. stays;
      seen = λ l seen. seen;
      carrier = λ f. record { walk = refl; popped = refl; next = refl; queue = λ some. some };
      budget = refl;
      pushes = refl;
      watches = λ before f. absurd (serving_unposted s (sym serves ∙ f));
    }) own

pub carries_on : (c : Core) (g : Ghost) (s : ℕ) (y : SeatState) (head walk : ℕ) (popped : List Record) → IsSeat c.seats s → Fits c g
    → Carries c g s y head walk popped → Fits (put (carried_core c head popped) s y) (walking g walk)
carries_on c g s y head walk popped is fits step =
    let long = length-with_entry c.seats s y in
    let posts = step.errands.posts_same in
    let words = fits.words in
    record {
      words = record {
        owner = words.owner;
        handoff = rw step.serves (rw step.serves at words.handoff);
        stamp = words.stamp;
        head = step.newest_head;
        parts = step.parts;
        count = words.count;
        work = words.work;
        carried = rw step.serves tt;
        last = words.last;
        answers = words.answers;
        listed = step.listed;
      };
      stamps = λ stamp above within. let here = step.stamps stamp above within in record { stands = here.stands; fresh = here.fresh; walked = here.walked };
      each = each_after c (carried_core c head popped) g (walking g walk) s y is refl fits (omega (arith, posts)) (λ t other. refl)
          (λ t other. carries_unseen c g s y head walk popped t (seat c.seats t) is posts step.serves step.head_or_none other)
          (carries_own (carried_core c head popped) (walking g walk) s y (wake c.wakes s) is posts step.serves step.own);
      agents = agents_after c g.standing s y is step.errands fits.agents;
      sums = rw long (record { asking = fits.sums.asking; queued = fits.sums.queued; pushed = fits.sums.pushed });
      sizes = sizes_after c _ s y refl refl refl fits.sizes;
    }
