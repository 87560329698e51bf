-- The queue in the words is the ghost's: the chains of links, the pop list, and the seats that wait.
use Rattle.std.proofs.Common.{◌≡◌, ◌≢◌, ℕ, ◌+◌, ◌-◌, ◌<◌, ◌≤◌, true, ◌++◌, length, reverse, refl, sym, ap, ◌∙◌, arith}
use Rattle.std.proofs.lemmas.Bool.{false≢true}
use Rattle.std.proofs.lemmas.List.{reverse-reverse}
use Rattle.std.specs.Prelude.{AllPairs, slice_index_or}
use Rattle.lfm_words.specs.declared.pop_lists.Record.{Record}
use Rattle.lfm_protocol.specs.Core.{Core}
use Rattle.lfm_laws.specs.steady.Ghost.{Standing, apart, claimed, asks, queued, Ghost}
use Rattle.lfm_laws.specs.laws.Lawful.{EndsAt}
use Rattle.lfm_laws.specs.steady.Numbered.{records}
use Rattle.lfm_laws.specs.steady.EventOutcome.{queue_of_ghost}
use Rattle.lfm_protocol.specs.Queue.{chain, unwalked, queue_of}
use Rattle.lfm_laws.specs.steady.Steady.{cleared, QueuedFits, Fits, Steady}
use Rattle.lfm_laws.specs.steady.Views.{is_queued}
use Rattle.lfm_laws.specs.laws.Watched.{IsQueued}
use Rattle.lfm_laws.proofs.lawful.read.Chains.{Leads, chain_leads}
use Rattle.lfm_laws.proofs.steady.frames.Histories.{records_append}
use Rattle.lfm_laws.proofs.lawful.read.RecordsRead.{length-records, get_or-records}
use Rattle.lfm_laws.proofs.steady.Room.{queue_fits}
use Rattle.lfm_laws.proofs.steady.frames.Seated.{seat_of_stamp}
use Rattle.lfm_laws.proofs.lawful.read.Unwalked.{unwalked_read}
use Rattle.lfm_laws.proofs.steady.queue.Popping.{queued_injective}

-- The parts of the queue

-- a record that is still to be collected leads to the one before it
walked_leads : (c : Core) (g : Ghost) → Fits c g → (stamp : ℕ) → g.popped < stamp → stamp ≤ g.popped + g.walk → Leads c.links g.pushed_at g.popped stamp
walked_leads c g fits stamp above within =
    let is = seat_of_stamp c g stamp fits above (omega (arith, within, fits.words.parts)) in
    let here = fits.stamps stamp above (omega (arith, within, fits.words.parts)) in
    record { above = is.above; within = omega (arith, is.within, fits.sizes.links); link_is = here.walked within }

-- a record in the push list leads to the one before it
fresh_leads : (c : Core) (g : Ghost) → Fits c g → (stamp : ℕ) → cleared c g < stamp → stamp ≤ g.pushed → Leads c.links g.pushed_at (cleared c g) stamp
fresh_leads c g fits stamp above within =
    let is = seat_of_stamp c g stamp fits (omega (arith, above)) within in
    let here = fits.stamps stamp (omega (arith, above)) within in
    record { above = is.above; within = omega (arith, is.within, fits.sizes.links); link_is = here.fresh above }

walked_chain : (c : Core) (g : Ghost) → Fits c g → chain c.links (unwalked c.seats) ≡ reverse (records g.pushed_at g.popped g.walk)
walked_chain c g fits =
    rw (unwalked_read c g fits)
    (chain_leads (length c.links) g.walk c.links g.pushed_at g.popped (omega (arith, fits.words.parts, queue_fits c g fits, fits.sizes.links)) (walked_leads c g fits))

fresh_chain : (c : Core) (g : Ghost) → Fits c g → chain c.links c.push.next ≡ reverse (records g.pushed_at (cleared c g) (g.pushed - cleared c g))
fresh_chain c g fits =
    let all : cleared c g + (g.pushed - cleared c g) ≡ g.pushed = omega (arith, fits.words.parts) in
    rw fits.words.head
    (rw all at (chain_leads (length c.links) (g.pushed - cleared c g) c.links g.pushed_at (cleared c g) (omega (arith, fits.words.parts, queue_fits c g fits, fits.sizes.links))
    (λ stamp above within. fresh_leads c g fits stamp above (omega (arith, all, within)))))

-- three consecutive parts make the whole
joined : (pushed_at : ℕ → ℕ) (popped walk kept pushed : ℕ) → popped + walk + kept ≤ pushed
    → records pushed_at popped walk ++ (records pushed_at (popped + walk) kept ++ records pushed_at (popped + walk + kept) (pushed - (popped + walk + kept)))
    ≡ records pushed_at popped (pushed - popped)
joined pushed_at popped walk kept pushed parts =
    let rest : ℕ = pushed - (popped + walk + kept) in
    let all : walk + (kept + rest) ≡ pushed - popped = omega (arith, parts) in
    let later = records_append pushed_at (popped + walk) kept rest in
    let whole = records_append pushed_at popped walk (kept + rest) in
    ap (λ rs. records pushed_at popped walk ++ rs) (sym later) ∙ sym whole ∙ ap (records pushed_at popped) all

pub queue_read : (c : Core) (g : Ghost) → Fits c g → queue_of c ≡ queue_of_ghost g
queue_read c g fits =
    let walked = ap reverse (walked_chain c g fits) ∙ reverse-reverse (records g.pushed_at g.popped g.walk) in
    let fresh = ap reverse (fresh_chain c g fits) ∙ reverse-reverse (records g.pushed_at (cleared c g) (g.pushed - cleared c g)) in
    ap (λ rs. rs ++ (c.popped ++ reverse (chain c.links c.push.next))) walked
    ∙ ap (λ rs. records g.pushed_at g.popped g.walk ++ (c.popped ++ rs)) fresh
    ∙ ap (λ rs. records g.pushed_at g.popped g.walk ++ (rs ++ records g.pushed_at (cleared c g) (g.pushed - cleared c g))) fits.words.listed
    ∙ joined g.pushed_at g.popped g.walk (length c.popped) g.pushed fits.words.parts

-- The seats that wait

-- the length of the queue
pub queue_length : (c : Core) (g : Ghost) → Fits c g → length (queue_of c) ≡ g.pushed - g.popped
queue_length c g fits = ap length (queue_read c g fits) ∙ length-records g.pushed_at g.popped (g.pushed - g.popped)

-- the record at an index of the queue
queue_at : (c : Core) (g : Ghost) → Fits c g → (k : ℕ) (d : Record) → k < g.pushed - g.popped
    → slice_index_or (queue_of c) k d ≡ record { seat = g.pushed_at (g.popped + k + 1); stamp = g.popped + k + 1 }
queue_at c g fits k d within = ap (λ rs. slice_index_or rs k d) (queue_read c g fits) ∙ get_or-records g.pushed_at g.popped (g.pushed - g.popped) k d within

-- the seat of a stamp in the queue is queued with that stamp
stands_queued : (c : Core) (g : Ghost) → Fits c g → (k : ℕ) → k < g.pushed - g.popped → g.standing (g.pushed_at (g.popped + k + 1)) ≡ queued (g.popped + k + 1)
stands_queued c g fits k within = (fits.stamps (g.popped + k + 1) (omega arith) (omega (arith, within))).stands

waits_by : (c : Core) (g : Ghost) (t k : ℕ) (x : Record) → Fits c g → k < length (queue_of c) → slice_index_or (queue_of c) k x ≡ x → x.seat ≡ t → is_queued (g.standing t) ≡ true
waits_by c g t k x fits within here same =
    let inside : k < g.pushed - g.popped = omega (arith, within, queue_length c g fits) in
    let seat_is : g.pushed_at (g.popped + k + 1) ≡ t = ap (λ r. r.seat) (sym (queue_at c g fits k x inside) ∙ here) ∙ same in
    ap is_queued (rw seat_is at (stands_queued c g fits k inside))

pub waits_read : (c : Core) (g : Ghost) → Fits c g → (t : ℕ) → IsQueued c t → is_queued (g.standing t) ≡ true
waits_read c g fits t waits = waits_by c g t waits.0 waits.1 fits waits.2 waits.3 waits.4

told_by : (c : Core) (g : Ghost) (t stamp : ℕ) → Fits c g → g.popped < stamp → stamp ≤ g.pushed → g.pushed_at stamp ≡ t → IsQueued c t
told_by c g t stamp fits above within here =
    let k : ℕ = stamp - g.popped - 1 in
    let back : g.popped + k + 1 ≡ stamp = omega (arith, above) in
    let inside : k < g.pushed - g.popped = omega (arith, above, within) in
    let r : Record = record { seat = g.pushed_at stamp; stamp = stamp } in
    (k, r, omega (arith, inside, queue_length c g fits), rw back at (queue_at c g fits k r inside), here)

told_as : (c : Core) (g : Ghost) (t : ℕ) (standing : Standing) → Fits c g → is_queued standing ≡ true → ((stamp : ℕ) → standing ≡ queued stamp → QueuedFits g t stamp) → IsQueued c t
told_as c g t apart fits stands listed = absurd (false≢true stands)
told_as c g t (claimed agent) fits stands listed = absurd (false≢true stands)
told_as c g t (asks agent) fits stands listed = absurd (false≢true stands)
told_as c g t (queued stamp) fits stands listed = let here = listed stamp refl in told_by c g t stamp fits here.above here.within here.here

pub waits_told : (c : Core) (g : Ghost) → Fits c g → (t : ℕ) → is_queued (g.standing t) ≡ true → IsQueued c t
waits_told c g fits t stands = told_as c g t (g.standing t) fits stands (fits.each t).listed

pub queue_distinct : (c : Core) (g : Ghost) → Fits c g → AllPairs (λ r q. r.seat ≢ q.seat) (queue_of c)
queue_distinct c g fits i j d before within same =
    let last : j < g.pushed - g.popped = omega (arith, within, queue_length c g fits) in
    let first : i < g.pushed - g.popped = omega (arith, before, last) in
    let one = queue_at c g fits i d first in
    let other = queue_at c g fits j d last in
    let seats : g.pushed_at (g.popped + i + 1) ≡ g.pushed_at (g.popped + j + 1) = ap (λ r. r.seat) (sym one) ∙ same ∙ ap (λ r. r.seat) other in
    let stamps = queued_injective (g.popped + i + 1) (g.popped + j + 1) (sym (stands_queued c g fits i first) ∙ ap g.standing seats ∙ stands_queued c g fits j last) in
    absurd (omega (arith, stamps, before))

pub queue_ends : (c : Core) (g : Ghost) → Fits c g → EndsAt c.push.stamp (queue_of c)
queue_ends c g fits k d within =
    let long = queue_length c g fits in
    let stamp = ap (λ r. r.stamp) (queue_at c g fits k d (omega (arith, within, long))) in
    omega (arith, stamp, long, within, fits.words.stamp)

-- at most as many records are queued as there are seats
pub queue_few : (c : Core) → Steady c → length (queue_of c) ≤ length c.seats
queue_few c steady =
    omega (arith, queue_length c steady.ghost_state steady.fits, queue_fits c steady.ghost_state steady.fits)
