-- The steps by which a send claims its target and counts it keep a state steady.
use Rattle.std.proofs.Common.{◌≡◌, ◌≢◌, ℕ, true, false, ◌<◌, refl, sym, ap, ◌∙◌, inl, inr, arith}
use Rattle.std.proofs.lemmas.Bool.{cases_eq, eq-eqb, ne_eqb}
use Rattle.lfm_protocol.specs.declared.points.Point.TheVariants.{Rest, PushLoad, SendWakeExchange, SendCountAdd, SendWakeStore}
use Rattle.lfm_protocol.specs.declared.points.Pusher.TheVariants as Pusher
use Rattle.lfm_words.specs.declared.wakes.Wake.{Wake}
use Rattle.lfm_words.specs.declared.wakes.Wake.TheVariants.{Waiting}
use Rattle.lfm_model.specs.Abstract as Abstract
use Rattle.lfm_protocol.specs.Core.{Core, put}
use Rattle.lfm_laws.specs.steady.Ghost.{nobody, entering, apart, claimed, asks, Ghost}
use Rattle.lfm_laws.specs.steady.EventOutcome.{Kept}
use Rattle.lfm_protocol.specs.Seats.{seat, wake, IsSeat}
use Rattle.lfm_laws.specs.steady.Steady.{SeatFits, Fits}
use Rattle.lfm_laws.specs.steady.Views.{is_some, is_asking, grant_at, held_by}
use Rattle.lfm_laws.proofs.steady.grant.Claiming.{claiming, bringing, claim_moves, bring_moves, free_place}
use Rattle.lfm_laws.proofs.steady.frames.Frames.{view_moves}
use Rattle.lfm_laws.proofs.steady.frames.Histories.{history_stays}
use Rattle.lfm_laws.proofs.steady.grant.Joining.{joined, joins_another, joining_another_asks}
use Rattle.lfm_laws.proofs.steady.grant.Standings.{standing_anew}
use Rattle.lfm_laws.proofs.steady.frames.Sums.{changed_same, changed_other}
use Rattle.lfm_laws.proofs.steady.grant.Wakings.{none_from, waiting_of}
use Rattle.lfm_laws.proofs.steady.queue.Pushers.{no_depth}

-- The wake exchange

-- the target does not wait
refused_own : (c : Core) (g : Ghost) (s t depth takes posts : ℕ) (w : Wake)
    → SeatFits c g s (record { depth = depth; takes = takes; posts = posts; point = SendWakeExchange t }) w
    → SeatFits c g s (record { depth = depth; takes = takes; posts = posts; point = Rest }) w
refused_own c g s t depth takes posts w here =
    let unknown : is_some (grant_at g.place s) ≢ true = λ some. let f = (here.granted some).0 in cc in
    let none = none_from (grant_at g.place s) unknown in
    record {
      claims = here.claims;
      woken = (rw none at here.woken) ∙ rw none;
      granted = here.granted;
      entered = here.entered;
      listed = here.listed;
      stands = here.stands;
      depth = here.depth;
      knows = tt;
      number = here.number;
      takes = here.takes;
      posts = here.posts;
      pushes = here.pushes;
      watches = here.watches;
    }

refuses_claim : (c : Core) (g : Ghost) (s t : ℕ) → IsSeat c.seats s → (seat c.seats s).point ≡ SendWakeExchange t → Fits c g
    → Fits (put c s (record (seat c.seats s) { point = Rest })) g
refuses_claim c g s t is at fits =
    let x = seat c.seats s in
    view_moves c g s (record (seat c.seats s) { point = Rest }) is fits (record { asks_same = rw at; claims_same = rw at; posts_same = refl })
    (refused_own c g s t x.depth x.takes x.posts (wake c.wakes s) (rw at at (fits.each s)))

-- the target waits
claiming_own : (c : Core) (g : Ghost) (s t depth takes posts : ℕ) (w : Wake) → t ≢ s
    → SeatFits c g s (record { depth = depth; takes = takes; posts = posts; point = SendWakeExchange t }) w
    → SeatFits c (claiming g s t) s (record { depth = depth; takes = takes; posts = posts; point = SendCountAdd t }) w
claiming_own c g s t depth takes posts w other here =
    let unknown : is_some (grant_at g.place s) ≢ true = λ some. let f = (here.granted some).0 in cc in
    let none = none_from (grant_at g.place s) unknown in
    let same = changed_other g.standing t s (claimed s) (λ e. other (sym e)) in
    record {
      claims = here.claims;
      woken = (rw none at here.woken) ∙ rw none;
      granted = λ some. absurd (unknown some);
      entered = λ is held. let f = (here.entered is held).0 in cc;
      listed = λ n e. let f = sym e ∙ same ∙ here.stands in cc;
      stands = same ∙ here.stands;
      depth = here.depth;
      knows = (other, changed_same g.standing t (claimed s));
      number = here.number;
      takes = here.takes;
      posts = here.posts;
      pushes = here.pushes;
      watches = here.watches;
    }

-- a seat at the wake exchange of its own send does not wait
awake : (c : Core) (g : Ghost) (s t depth takes posts : ℕ) (w : Wake)
    → SeatFits c g s (record { depth = depth; takes = takes; posts = posts; point = SendWakeExchange t }) w → w ≢ Waiting
awake c g s t depth takes posts w here e =
    let unknown : is_some (grant_at g.place s) ≢ true = λ some. let f = (here.granted some).0 in cc in
    let none = none_from (grant_at g.place s) unknown in
    let f = sym e ∙ (rw none at here.woken) in
    cc

claims_target : (c : Core) (g : Ghost) (s t : ℕ) → IsSeat c.seats s → (seat c.seats s).point ≡ SendWakeExchange t → wake c.wakes t ≡ Waiting → Fits c g → Kept c g s
claims_target c g s t is at found fits =
    let x = seat c.seats s in
    let here : SeatFits c g s (record { depth = x.depth; takes = x.takes; posts = x.posts; point = SendWakeExchange t }) (wake c.wakes s) = rw at at (fits.each s) in
    let other : t ≢ s = λ e. awake c g s t x.depth x.takes x.posts (wake c.wakes s) here (ap (wake c.wakes) (sym e) ∙ found) in
    let waits = waiting_of g.place (g.standing t) t (seat c.seats t).point (sym found ∙ (fits.each t).woken) in
    rw (at, at, found) (record {
      to = claiming g s t;
      fits = claim_moves c g s t (record (seat c.seats s) { point = SendCountAdd t }) is fits (record {
        known = here.knows;
        other = other;
        found = found;
        asks_same = rw at;
        claims_before = rw at;
        claims_now = refl;
        posts_same = refl;
        own = claiming_own c g s t x.depth x.takes x.posts (wake c.wakes s) other here;
      });
      goes = record { place = refl; asking = standing_anew is_asking g.standing t (claimed s) (rw waits.stands); waiting = refl };
      history = history_stays g _ refl refl refl refl;
    })

wake_exchange_by : (c : Core) (g : Ghost) (s t : ℕ) (w : Wake) → IsSeat c.seats s → (seat c.seats s).point ≡ SendWakeExchange t → wake c.wakes t ≡ w → Fits c g → Kept c g s
wake_exchange_by c g s t Waiting is at found fits = claims_target c g s t is at found fits
wake_exchange_by c g s t _ is at found fits =
    rw (at, at, found) (record {
      to = g;
      fits = refuses_claim c g s t is at fits;
      goes = record { place = refl; asking = λ x. refl; waiting = refl };
      history = history_stays g g refl refl refl refl;
    })

pub at_SendWakeExchange : (c : Core) (g : Ghost) (s t : ℕ) → IsSeat c.seats s → (seat c.seats s).point ≡ SendWakeExchange t → Fits c g → Kept c g s
at_SendWakeExchange c g s t is at fits = wake_exchange_by c g s t (wake c.wakes t) is at refl fits

-- The count add

-- the count was 0
bringing_own : (c : Core) (g : Ghost) (s t depth takes posts : ℕ) (w : Wake) → g.place ≡ nobody
    → SeatFits c g s (record { depth = depth; takes = takes; posts = posts; point = SendCountAdd t }) w
    → SeatFits c (bringing g s t) s (record { depth = depth; takes = takes; posts = posts; point = SendWakeStore t }) w
bringing_own c g s t depth takes posts w place here =
    let own : entering s t 0 ≡ held_by (entering s t 0) s = rw (eq-eqb s s refl) in
    let other = here.knows.0 in
    let same = changed_other g.standing t s apart (λ e. other (sym e)) in
    record {
      claims = own;
      woken = rw place at here.woken;
      granted = λ some. cc;
      entered = λ is held. let f = own ∙ held in cc;
      listed = λ n e. let f = sym e ∙ same ∙ here.stands in cc;
      stands = same ∙ here.stands;
      depth = no_depth depth s false (rw place at here.claims);
      knows = other;
      number = here.number;
      takes = here.takes;
      posts = omega (arith, here.posts);
      pushes = here.pushes;
      watches = λ e watcher. cc;
    }

brings_target : (c : Core) (g : Ghost) (s t : ℕ) → IsSeat c.seats s → (seat c.seats s).point ≡ SendCountAdd t → c.count ≡ 0 → Fits c g → Kept c g s
brings_target c g s t is at free fits =
    let x = seat c.seats s in
    let here : SeatFits c g s (record { depth = x.depth; takes = x.takes; posts = x.posts; point = SendCountAdd t }) (wake c.wakes s) = rw at at (fits.each s) in
    let place = free_place c g fits.words free in
    rw (at, at, eq-eqb c.count 0 free) (record {
      to = bringing g s t;
      fits = bring_moves c g s t (record (seat c.seats s) { point = SendWakeStore t }) is fits (record {
        free = free;
        other = here.knows.0;
        stands = here.knows.1;
        asks_same = rw at;
        posts_same = refl;
        own = bringing_own c g s t x.depth x.takes x.posts (wake c.wakes s) place here;
      });
      goes = (
        Abstract.ask_free s t (record {
          before = rw place;
          after = refl;
          asking = standing_anew is_asking g.standing t apart (rw here.knows.1);
          waiting = refl;
        }),
        refl,
      );
      history = history_stays g _ refl refl refl refl;
    })

-- the count was above 0
joining_own : (c : Core) (g : Ghost) (s t depth takes posts : ℕ) (w : Wake)
    → SeatFits c g s (record { depth = depth; takes = takes; posts = posts; point = SendCountAdd t }) w
    → SeatFits c (joined g s t) s (record { depth = depth; takes = takes; posts = posts; point = PushLoad (Pusher.Sender t) }) w
joining_own c g s t depth takes posts w here =
    let unknown : is_some (grant_at g.place s) ≢ true = λ some. let f = (here.granted some).0 in cc in
    let none = none_from (grant_at g.place s) unknown in
    let other = here.knows.0 in
    let same = changed_other g.standing t s (asks s) (λ e. other (sym e)) in
    record {
      claims = here.claims;
      woken = (rw none at here.woken) ∙ rw none;
      granted = λ some. absurd (unknown some);
      entered = λ is held. let f = (here.entered is held).0 in cc;
      listed = λ n e. let f = sym e ∙ same ∙ here.stands in cc;
      stands = same ∙ here.stands;
      depth = here.depth;
      knows = (other, changed_same g.standing t (asks s));
      number = here.number;
      takes = here.takes;
      posts = here.posts;
      pushes = here.pushes;
      watches = λ here watcher. tt;
    }

joins_target : (c : Core) (g : Ghost) (s t : ℕ) → IsSeat c.seats s → (seat c.seats s).point ≡ SendCountAdd t → c.count ≢ 0 → Fits c g → Kept c g s
joins_target c g s t is at some fits =
    let x = seat c.seats s in
    let here : SeatFits c g s (record { depth = x.depth; takes = x.takes; posts = x.posts; point = SendCountAdd t }) (wake c.wakes s) = rw at at (fits.each s) in
    let more : 0 < c.count = omega arith in
    rw (at, at, ne_eqb c.count 0 some) (record {
      to = joined g s t;
      fits = joins_another c g s t (record (seat c.seats s) { point = PushLoad (Pusher.Sender t) }) is fits here.knows.0 here.knows.1 (record {
        some = more;
        idle = rw at;
        asks_now = refl;
        claims_now = refl;
        posts_same = refl;
        own = joining_own c g s t x.depth x.takes x.posts (wake c.wakes s) here;
      });
      goes = joining_another_asks c g s t fits more here.knows.1;
      history = history_stays g _ refl refl refl refl;
    })

pub at_SendCountAdd : (c : Core) (g : Ghost) (s t : ℕ) → IsSeat c.seats s → (seat c.seats s).point ≡ SendCountAdd t → Fits c g → Kept c g s
at_SendCountAdd c g s t is at fits =
    elim (cases_eq c.count 0) [
      | inl free ↦ brings_target c g s t is at free fits
      | inr some ↦ joins_target c g s t is at some fits
    ]
