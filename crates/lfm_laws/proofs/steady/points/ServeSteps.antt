-- The owner store of a locker that took its own record, and the free grant of a send, keep a state steady.
use Rattle.std.proofs.Common.{◌≡◌, ◌≢◌, ℕ, false, ◌+◌, List, ◌∷◌, refl, sym, ap, ◌∙◌, arith}
use Rattle.std.proofs.lemmas.Bool.{eq-eqb, ne_eqb, false≢true}
use Rattle.lfm_model.specs.Abstract as Abstract
use Rattle.lfm_model.specs.declared.answers.How.TheVariants as How
use Rattle.lfm_protocol.specs.declared.points.Entrant.TheVariants as Entrant
use Rattle.lfm_protocol.specs.declared.points.Point.TheVariants.{Rest, SendWakeStore, EnterOwnerStore}
use Rattle.lfm_protocol.specs.declared.seats.SeatState.{SeatState}
use Rattle.lfm_words.specs.declared.pop_lists.Record.{Record}
use Rattle.lfm_words.specs.declared.wakes.Wake.TheVariants.{Quiet}
use Rattle.lfm_protocol.specs.Core.{Core, put}
use Rattle.lfm_laws.specs.steady.Ghost.{nobody, entering, owned, serving, posted, apart, queued, Ghost}
use Rattle.lfm_laws.specs.steady.EventOutcome.{abstract, abstract_place, Kept}
use Rattle.lfm_protocol.specs.Seats.{seat, wake, IsSeat}
use Rattle.lfm_laws.specs.steady.Steady.{SeatFits, Fits}
use Rattle.lfm_laws.specs.steady.Views.{held_by}
use Rattle.lfm_laws.proofs.steady.frames.Abstracts.{queue_pops}
use Rattle.lfm_laws.proofs.steady.frames.Frames.{place_of_claim}
use Rattle.lfm_laws.proofs.steady.grant.FreeGrant.{freed_to, free_fits}
use Rattle.lfm_laws.proofs.steady.grant.Granting.{Rests}
use Rattle.lfm_laws.proofs.steady.handoff.Handing.{handed}
use Rattle.lfm_laws.proofs.steady.frames.Histories.{history_serves, history_stays}
use Rattle.lfm_laws.proofs.steady.queue.Popping.{first_of, first_record_is, asking_stays, popped_to, pops_fit}
use Rattle.lfm_laws.proofs.steady.frames.Sums.{changed_same}

-- A locker that took its own record

-- the ghost after seat s has become the owner by its own record
abbrev served_to : Ghost → ℕ → Ghost
served_to g s = popped_to g s (owned s false) (g.answered + 1)

-- the state of a seat that owns
abbrev owning : SeatState → SeatState
owning x = record x { point = Rest; depth = 1 }

owns_alone : (s t : ℕ) → t ≢ s → held_by (owned s false) t ≡ nobody
owns_alone s t other = rw (ne_eqb s t (λ e. other (sym e))) refl

own_served : (c : Core) (g : Ghost) (s stamp : ℕ) (rest : List Record) → (seat c.seats s).point ≡ EnterOwnerStore Entrant.Locker (How.Queued stamp) → Fits c g → g.place ≡ serving s
    → SeatFits (handed c s rest c.wakes) (served_to g s) s (owning (seat c.seats s)) (wake c.wakes s)
own_served c g s stamp rest at fits serves =
    let here = rw at at (fits.each s) in
    let stands = changed_same g.standing s apart in
    let quiet : wake c.wakes s ≡ Quiet = rw serves at here.woken in
    record {
      claims = rw (eq-eqb s s refl) refl;
      woken = quiet;
      granted = λ some. absurd (false≢true some);
      entered = λ entered. absurd (false≢true entered);
      listed = λ k at. (let clash : apart ≡ queued k = sym stands ∙ at in absurd (cc));
      stands = stands;
      depth = omega arith;
      knows = tt;
      number = here.number;
      takes = here.takes;
      posts = here.posts;
      pushes = here.pushes;
      watches = λ placed at. (let clash : owned s false ≡ posted = placed in absurd (cc));
    }

serves_fit : (c : Core) (g : Ghost) (s stamp : ℕ) (rest : List Record) → IsSeat c.seats s → (seat c.seats s).point ≡ EnterOwnerStore Entrant.Locker (How.Queued stamp) → Fits c g
    → g.place ≡ serving s → g.walk ≡ 0 → c.popped ≡ record { seat = s; stamp = stamp } ∷ rest
    → Fits (put (handed c s rest c.wakes) s (owning (seat c.seats s))) (served_to g s)
serves_fit c g s stamp rest is at fits serves walked popped =
    let level : g.answered + 0 ≡ g.popped = rw serves at fits.words.answers in
    pops_fit c g s (owning (seat c.seats s)) (record { seat = s; stamp = stamp }) s rest c.wakes (owned s false) (g.answered + 1) is fits
    (record {
      errands = record { asks_same = rw at refl; claims_same = rw at refl; posts_same = refl };
      serves = serves;
      walked = walked;
      first = popped;
      unposted_after = λ e. cc;
      holds = λ t other away. (owns_alone s t other, refl, refl);
      owns = refl;
      handoff = λ e. e;
      units = refl;
      work = tt;
      carried = walked;
      last = λ same here. tt;
      answers = omega (arith, level);
      woken = λ t other away. refl;
      woken_all = refl;
      own = own_served c g s stamp rest at fits serves;
      second = λ far. absurd (far refl);
    })

-- the state stays steady when seat s has taken its own record and owns
owns_queued : (c : Core) (g : Ghost) (s stamp : ℕ) (rest : List Record) → IsSeat c.seats s → (seat c.seats s).point ≡ EnterOwnerStore Entrant.Locker (How.Queued stamp) → Fits c g
    → g.place ≡ serving s → g.walk ≡ 0 → c.popped ≡ record { seat = s; stamp = stamp } ∷ rest → Kept c g s
owns_queued c g s stamp rest is at fits serves walked popped =
    let r : Record = record { seat = s; stamp = stamp } in
    let first = first_of c g r rest fits walked popped in
    let level : g.answered + 0 ≡ g.popped = rw serves at fits.words.answers in
    rw (at, at, popped) (record {
      to = served_to g s;
      fits = serves_fit c g s stamp rest is at fits serves walked popped;
      goes = (
        Abstract.serve s s (record {
          before = ap abstract_place serves;
          after = rw (eq-eqb s s refl) refl;
          asking = asking_stays g s (g.popped + 1) first.stands;
          waiting = queue_pops g (served_to g s) first.some refl refl refl ∙ ap (λ u. u ∷ (abstract (served_to g s)).waiting) first.here;
        }),
        refl,
      );
      history = history_serves g (served_to g s) r refl refl refl refl (omega (arith, level)) (first_record_is g r first.stamp first.here);
    })

pub at_EnterOwnerStore_taken : (c : Core) (g : Ghost) (s stamp : ℕ) → IsSeat c.seats s → (seat c.seats s).point ≡ EnterOwnerStore Entrant.Locker (How.Queued stamp) → Fits c g → Kept c g s
at_EnterOwnerStore_taken c g s stamp is at fits =
    let here = rw at at (fits.each s) in
    let place = place_of_claim g.place (serving s) s (λ e. cc) here.claims in
    owns_queued c g s stamp here.knows.1.0 is at fits place here.knows.0 here.knows.1.1

-- The free grant of a send

rests_sent : (c : Core) (g : Ghost) (s t : ℕ) → (seat c.seats s).point ≡ SendWakeStore t → Fits c g → g.place ≡ entering s t 0 → Rests g s t 0 (seat c.seats s) (wake c.wakes s) Rest
rests_sent c g s t at fits place =
    let here = rw at at (fits.each s) in
    let depth : (seat c.seats s).depth ≡ 0 = here.depth in
    let quiet : wake c.wakes s ≡ Quiet = rw place at here.woken in
    record {
      claims = rw depth refl;
      woken = quiet;
      stands = here.stands;
      depth = omega (arith, depth);
      knows = λ d h. tt;
      posts = rw depth here.posts;
      pushes = here.pushes;
    }

pub at_SendWakeStore : (c : Core) (g : Ghost) (s t : ℕ) → IsSeat c.seats s → (seat c.seats s).point ≡ SendWakeStore t → Fits c g → Kept c g s
at_SendWakeStore c g s t is at fits =
    let here = rw at at (fits.each s) in
    let place = place_of_claim g.place (entering s t 0) s (λ e. cc) here.claims in
    let other : t ≢ s = here.knows in
    rw (at, at) (record {
      to = freed_to g t;
      fits = free_fits c g s t Rest is fits (record { asks_same = rw at refl; claims_same = rw at refl; posts_same = refl }) place other (rests_sent c g s t at fits place);
      goes = (
        Abstract.enter s t (record {
          before = ap abstract_place place;
          after = rw (ne_eqb t s other) refl;
          asking = λ x. refl;
          waiting = refl;
        }),
        refl,
      );
      history = history_stays g (freed_to g t) refl refl refl refl;
    })
