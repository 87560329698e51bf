-- The slack: how many records are to be collected before a queued record leaves. These are the rest of the walk that is
-- under way, and, while our record is in the push list, at most N more: the next clear-head clears ours too, so one more
-- walk collects it. No event raises the slack, and each link load of the carrier lowers it. So walks are paid once for all
-- records before ours.
use Rattle.std.proofs.Common.{◌≡◌, ℕ, suc, Bool, true, false, ◌+◌, ◌-◌, ◌≤◌, ◌<◌, List, [], ◌∷◌, length, refl, sym, ap, ◌∙◌, inl, inr, arith}
use Rattle.std.specs.Prelude.{◌⊎◌, drop}
use Rattle.std.proofs.lemmas.Bool.{cases_eq, cases_lt, false≢true}
use Rattle.lfm_model.specs.declared.answers.How.{How}
use Rattle.lfm_protocol.specs.declared.points.Carrier.{Carrier}
use Rattle.lfm_protocol.specs.declared.points.Entrant.{Entrant}
use Rattle.lfm_protocol.specs.declared.points.Point.{Point}
use Rattle.lfm_protocol.specs.declared.points.Point.TheVariants.{SendWakeStore, ReleaseOwnerStore, WaitWakeStore, TakeClearHead, TakeLinkLoad, GrantWakeStore, EnterOwnerStore, ReceiveWakeStore}
use Rattle.lfm_words.specs.declared.pop_lists.Record.{Record}
use Rattle.lfm_protocol.specs.After.{pushed, loaded}
use Rattle.lfm_protocol.specs.Core.{Core}
use Rattle.lfm_protocol.specs.Points.{kind, target}
use Rattle.lfm_protocol.specs.Seats.{seat, link, IsSeat}
use Rattle.lfm_protocol.specs.Step.{made}
use Rattle.lfm_laws.specs.laws.Events.{popped_by, popped_at_point}
use Rattle.lfm_laws.specs.steady.Ghost as Places
use Rattle.lfm_laws.specs.steady.Ghost.{queued, Ghost}
use Rattle.lfm_laws.specs.steady.Numbered.{records}
use Rattle.lfm_laws.specs.steady.Steady.{HasQueue, StandsAsCarrier, IsOldest, queued_unit, cleared, Fits}
use Rattle.lfm_laws.proofs.lawful.bounds.Leaving.{size_made}
use Rattle.lfm_laws.proofs.lawful.touched.OneWord.{popped_stays}
use Rattle.lfm_laws.proofs.steady.Room.{queue_fits, queued_unit-le}
use Rattle.lfm_laws.proofs.steady.frames.Seated.{seat_of_stamp}
use Rattle.lfm_laws.proofs.steady.frames.Sums.{sum_bound_less}
use Rattle.lfm_laws.proofs.steady.queue.Pushers.{newest_is}
use Rattle.lfm_laws.proofs.lawful.rounds.Collecting.{walking_stamp, collects, walk_next}

-- The pop list

popped_plain : (c : Core) (t : ℕ) (p : Point) → (seat c.seats t).point ≡ p → collects p ≡ false → popped_at_point t p ≡ [] → (made c t).core.popped ≡ c.popped
popped_plain c t (TakeLinkLoad carrier next) at other none = absurd (false≢true (sym other))
popped_plain c t (GrantWakeStore carrier r) at other none = absurd (cc)
popped_plain c t (EnterOwnerStore Entrant.Locker (How.Queued stamp)) at other none = absurd (cc)
popped_plain c t (EnterOwnerStore Entrant.Locker How.Free) at other none = rw (at, at) refl
popped_plain c t (EnterOwnerStore Entrant.Trier how) at other none = rw (at, at) refl
popped_plain c t (EnterOwnerStore Entrant.Receiver how) at other none = rw (at, at) refl
popped_plain c t (ReleaseOwnerStore releaser) at other none = rw (at, at) refl
popped_plain c t (WaitWakeStore released) at other none = rw (at, at) refl
popped_plain c t (SendWakeStore u) at other none = rw (at, at) refl
popped_plain c t (ReceiveWakeStore stamp) at other none = rw (at, at) refl
popped_plain c t p at other none = rw at (popped_stays c t (target p t) (kind p) refl)

-- The slack of the record with k before it, in a mutex with n seats

abbrev pub Slack : ℕ → Core → Ghost → ℕ → ℕ → Type 0
Slack n c g k w = ((k < g.walk + length c.popped) × (g.walk ≤ w)) ⊎ (g.walk + n ≤ w)

slack_by : (n : ℕ) (c d : Core) (g h : Ghost) (k l w : ℕ) → h.walk ≡ g.walk → length d.popped + (k - l) ≡ length c.popped → l ≤ k → Slack n c g k w → Slack n d h l w
slack_by n c d g h k l w walk popped less (inl s) = inl (omega (arith, s.0, walk, popped, less), omega (arith, s.1, walk))
slack_by n c d g h k l w walk popped less (inr s) = inr (omega (arith, s, walk))

-- a clear-head clears all records
clears_all : (c : Core) (h : Ghost) (t : ℕ) (carrier : Carrier) → (seat c.seats t).point ≡ TakeClearHead carrier → c.popped ≡ [] → Fits (made c t).core h
    → (h.popped + h.walk ≡ h.pushed) × ((made c t).core.popped ≡ [])
clears_all c h t carrier at empty after =
    let popped : (made c t).core.popped ≡ [] = rw at empty in
    let none : length (made c t).core.popped ≡ 0 = ap length popped in
    let head : (made c t).core.push.next ≡ 0 = rw at refl in
    elim (cases_eq (cleared (made c t).core h) h.pushed) [
      | inl all ↦ (omega (arith, all, none), popped)
      | inr away ↦
          let newest = newest_is (made c t).core h after away in
          let parts = after.words.parts in
          let is = seat_of_stamp (made c t).core h h.pushed after (omega (arith, away, parts, none)) (omega arith) in
          absurd (omega (arith, is.above, newest, head))
    ]

clear_walk : (n : ℕ) (c : Core) (g h : Ghost) (t k w least : ℕ) (carrier : Carrier) → (seat c.seats t).point ≡ TakeClearHead carrier → Fits c g → Fits (made c t).core h
    → h.popped ≡ g.popped → g.pushed ≤ h.pushed → g.popped + k < g.pushed → h.walk + least ≤ n → Slack n c g k w → (least ≤ w) × Slack n (made c t).core h k (w - least)
clear_walk n c g h t k w least carrier at fits after popped pushed inside few slack =
    let knows = rw at at (fits.each t).knows in
    let walked = knows.0 in
    let none : length c.popped ≡ 0 = ap length knows.1 in
    let all = clears_all c h t carrier at knows.1 after in
    let sum = all.0 in
    let empty : length (made c t).core.popped ≡ 0 = ap length all.1 in
    elim slack [
      | inl s ↦ absurd (omega (arith, s.0, walked, none))
      | inr s ↦ (omega (arith, s, few), inl (omega (arith, sum, popped, pushed, inside), omega (arith, s, few)))
    ]

-- a releaser or sender is apart from the queue, so it finds a record fewer than there are seats
queue_room : (c : Core) (g : Ghost) (s : ℕ) → Fits c g → IsSeat c.seats s → g.standing s ≡ Places.apart → g.pushed + 1 ≤ g.popped + length c.seats
queue_room c g s fits is stands =
    let none : queued_unit (g.standing s) + 1 ≤ 1 = rw stands (omega arith) in
    let most = sum_bound_less (length c.seats) 1 s (λ t. queued_unit (g.standing t)) is.above is.within (λ t. queued_unit-le (g.standing t)) none in
    omega (arith, most, fits.sums.queued)

abbrev pub is_locker : Carrier → Bool
is_locker Carrier.Locker = true
is_locker _ = false

stands_apart : (d : Core) (h : Ghost) (t : ℕ) (carrier : Carrier) → is_locker carrier ≡ false → StandsAsCarrier (h.standing t) carrier → h.standing t ≡ Places.apart
stands_apart d h t Carrier.Locker other stands = absurd (false≢true (sym other))
stands_apart d h t (Carrier.Releaser releaser) other stands = stands
stands_apart d h t (Carrier.Reclaimer releaser) other stands = stands
stands_apart d h t Carrier.Sender other stands = stands

-- a link load collects one record
load_walk : (n : ℕ) (c : Core) (g h : Ghost) (t k w : ℕ) (carrier : Carrier) (next : ℕ) → (seat c.seats t).point ≡ TakeLinkLoad carrier next → Fits c g → Fits (made c t).core h
    → h.popped ≡ g.popped → Slack n c g k w → (1 ≤ w) × Slack n (made c t).core h k (w - 1)
load_walk n c g h t k w carrier next at fits after popped slack =
    let some : 0 < g.walk = (rw at at (fits.each t).knows).0 in
    let before = (walking_stamp c g t carrier next at fits).0 in
    let grown : (made c t).core.popped ≡ loaded next (link c.links next) ∷ c.popped = rw at refl in
    let long : length (made c t).core.popped ≡ length c.popped + 1 = ap length grown ∙ omega arith in
    let one : loaded next (link c.links next) ∷ c.popped ≡ records h.pushed_at (h.popped + h.walk) (length c.popped + 1) =
    sym grown ∙ after.words.listed ∙ ap (records h.pushed_at (h.popped + h.walk)) long in
    let stamp : (link c.links next).stamp ≡ h.popped + h.walk + 1 = first_stamp _ _ h.pushed_at _ _ one in
    elim slack [
      | inl s ↦ (omega (arith, s.1, some), inl (omega (arith, s.0, before, stamp, popped, long), omega (arith, s.1, before, stamp, popped)))
      | inr s ↦ (omega (arith, s, some), inr (omega (arith, s, before, stamp, popped)))
    ]
  where
    first_stamp : (r : Record) (rest : List Record) (pushed_at : ℕ → ℕ) (from n : ℕ) → r ∷ rest ≡ records pushed_at from (n + 1) → r.stamp ≡ from + 1
    first_stamp r rest pushed_at from n e =
        let more : n + 1 ≡ suc n = omega arith in
        let e : r ∷ rest ≡ records pushed_at from (suc n) = rw more at e in
        let same : r ≡ record { seat = pushed_at (from + 1); stamp = from + 1 } = cc in
        ap (λ (x : Record). x.stamp) same

-- a record that leaves

left_length : (c : Core) (r : Record) (d : Core) → IsOldest c r → d.popped ≡ drop 1 c.popped → length d.popped + 1 ≡ length c.popped
left_length c r d first dropped =
    let e : d.popped ≡ drop 1 (r ∷ first.0) = dropped ∙ ap (drop 1) first.1 in
    let long : length c.popped ≡ length (r ∷ first.0) = ap length first.1 in
    let rest : length d.popped ≡ length first.0 = ap length e in
    omega (arith, long, rest)

served_walk : (n : ℕ) (c : Core) (g h : Ghost) (t k w : ℕ) (p : Point) → (seat c.seats t).point ≡ p → collects p ≡ false → IsSeat c.seats t → Fits c g → Fits (made c t).core h
    → g.walk ≡ 0 → length (made c t).core.popped + 1 ≡ length c.popped → h.popped ≡ g.popped + 1 → 1 ≤ k → Slack n c g k w → Slack n (made c t).core h (k - 1) w
served_walk n c g h t k w p at other is fits after walked long popped some slack =
    elim (walk_next c g h t p at other is fits after) [
      | inl sum ↦ absurd (omega (arith, sum, walked, popped))
      | inr both ↦ slack_by n c (made c t).core g h k (k - 1) w (both.1 ∙ sym both.0) (omega (arith, long, some)) (omega arith) slack
    ]

plain_walk : (n : ℕ) (c : Core) (g h : Ghost) (t k w : ℕ) (p : Point) → (seat c.seats t).point ≡ p → collects p ≡ false → popped_at_point t p ≡ [] → IsSeat c.seats t → Fits c g → Fits (made c t).core h
    → h.popped ≡ g.popped + length (popped_at_point t p) → Slack n c g k w → Slack n (made c t).core h (k - length (popped_at_point t p)) w
plain_walk n c g h t k w p at other none is fits after popped slack =
    let zero : length (popped_at_point t p) ≡ 0 = ap length none in
    let same = ap length (popped_plain c t p at other none) in
    elim (walk_next c g h t p at other is fits after) [
      | inl sum ↦ slack_by n c (made c t).core g h k (k - length (popped_at_point t p)) w (omega (arith, sum, popped, zero)) (omega (arith, same, zero)) (omega arith) slack
      | inr both ↦ slack_by n c (made c t).core g h k (k - length (popped_at_point t p)) w (both.1 ∙ sym both.0) (omega (arith, same, zero)) (omega arith) slack
    ]

-- no step raises the slack
slack_at : (n : ℕ) (c : Core) (g h : Ghost) (t k w : ℕ) (p : Point) → (seat c.seats t).point ≡ p → length c.seats ≡ n → IsSeat c.seats t → Fits c g → Fits (made c t).core h
    → h.popped ≡ g.popped + length (popped_at_point t p) → g.pushed ≤ h.pushed → g.popped + k < g.pushed → length (popped_at_point t p) ≤ k → Slack n c g k w
    → Slack n (made c t).core h (k - length (popped_at_point t p)) w
slack_at n c g h t k w (TakeClearHead carrier) at size is fits after popped pushed inside few slack =
    let long = size_made c t in
    let room = queue_fits (made c t).core h after in
    let parts = after.words.parts in
    let knows = rw at at (fits.each t).knows in
    let all = (clears_all c h t carrier at knows.1 after).0 in
    let walk = clear_walk n c g h t k w 0 carrier at fits after (omega (arith, popped)) pushed inside (omega (arith, long, size, room, all)) slack in
    let same : k - length (popped_at_point t (TakeClearHead carrier)) ≡ k = omega arith in
    let less : w - 0 ≡ w = omega arith in
    rw same (rw less at walk.1)
slack_at n c g h t k w (TakeLinkLoad carrier next) at size is fits after popped pushed inside few slack =
    let walk = load_walk n c g h t k w carrier next at fits after (omega (arith, popped)) slack in
    let same : k - length (popped_at_point t (TakeLinkLoad carrier next)) ≡ k = omega arith in
    rw same (slack_up n (made c t).core h k (w - 1) w (omega arith) walk.1)
  where
    slack_up : (n : ℕ) (d : Core) (h : Ghost) (k v w : ℕ) → v ≤ w → Slack n d h k v → Slack n d h k w
    slack_up n d h k v w less (inl s) = inl (s.0, omega (arith, s.1, less))
    slack_up n d h k v w less (inr s) = inr (omega (arith, s, less))
slack_at n c g h t k w (GrantWakeStore carrier r) at size is fits after popped pushed inside few slack =
    let knows = rw at at (fits.each t).knows in
    let dropped : (made c t).core.popped ≡ drop 1 c.popped = rw (at, at) refl in
    served_walk n c g h t k w (GrantWakeStore carrier r) at refl is fits after knows.0 (left_length c r (made c t).core knows.1 dropped) popped few slack
slack_at n c g h t k w (EnterOwnerStore Entrant.Locker (How.Queued stamp)) at size is fits after popped pushed inside few slack =
    let knows = rw at at (fits.each t).knows in
    let dropped : (made c t).core.popped ≡ drop 1 c.popped = rw (at, at) refl in
    served_walk n c g h t k w (EnterOwnerStore Entrant.Locker (How.Queued stamp)) at refl is fits after knows.0 (left_length c _ (made c t).core knows.1 dropped) popped few slack
slack_at n c g h t k w (EnterOwnerStore Entrant.Locker How.Free) at size is fits after popped pushed inside few slack = plain_walk n c g h t k w (EnterOwnerStore Entrant.Locker How.Free) at refl refl is fits after popped slack
slack_at n c g h t k w (EnterOwnerStore Entrant.Trier how) at size is fits after popped pushed inside few slack = plain_walk n c g h t k w (EnterOwnerStore Entrant.Trier how) at refl refl is fits after popped slack
slack_at n c g h t k w (EnterOwnerStore Entrant.Receiver how) at size is fits after popped pushed inside few slack = plain_walk n c g h t k w (EnterOwnerStore Entrant.Receiver how) at refl refl is fits after popped slack
slack_at n c g h t k w p at size is fits after popped pushed inside few slack = plain_walk n c g h t k w p at refl refl is fits after popped slack

pub slack_made : (n : ℕ) (c : Core) (g h : Ghost) (t k w : ℕ) → length c.seats ≡ n → IsSeat c.seats t → Fits c g → Fits (made c t).core h
    → h.popped ≡ g.popped + length (popped_by c t) → g.pushed ≤ h.pushed → g.popped + k < g.pushed → length (popped_by c t) ≤ k → Slack n c g k w
    → Slack n (made c t).core h (k - length (popped_by c t)) w
slack_made n c g h t k w size is fits after popped pushed inside few slack = slack_at n c g h t k w (seat c.seats t).point refl size is fits after popped pushed inside few slack

-- a step of the carrier by which the slack falls
abbrev pub SlackFalls : Core → Core → Ghost → Ghost → Type 0
SlackFalls c d g h =
    (k w : ℕ) → h.popped ≡ g.popped → g.pushed ≤ h.pushed → g.popped + k < g.pushed → Slack (length c.seats) c g k w → (1 ≤ w) × Slack (length c.seats) d h k (w - 1)

pub clear_falls : (c : Core) (g h : Ghost) (t : ℕ) (carrier : Carrier) → (seat c.seats t).point ≡ TakeClearHead carrier → is_locker carrier ≡ false → IsSeat c.seats t → HasQueue g → Fits c g
    → Fits (made c t).core h → StandsAsCarrier (h.standing t) carrier → SlackFalls c (made c t).core g h
clear_falls c g h t carrier at other is some fits after stands k w popped pushed inside slack =
    let size = size_made c t in
    let here : IsSeat (made c t).core.seats t = record { above = is.above; within = omega (arith, is.within, size) } in
    let room = queue_room (made c t).core h t after here (stands_apart (made c t).core h t carrier other stands) in
    let knows = rw at at (fits.each t).knows in
    let all = (clears_all c h t carrier at knows.1 after).0 in
    clear_walk (length c.seats) c g h t k w 1 carrier at fits after popped pushed inside (omega (arith, size, room, all)) slack

pub load_falls : (c : Core) (g h : Ghost) (t : ℕ) (carrier : Carrier) (next : ℕ) → (seat c.seats t).point ≡ TakeLinkLoad carrier next → Fits c g → Fits (made c t).core h → SlackFalls c (made c t).core g h
load_falls c g h t carrier next at fits after k w popped pushed inside slack = load_walk (length c.seats) c g h t k w carrier next at fits after popped slack

-- at first
pub slack_first : (c : Core) (g : Ghost) (k : ℕ) → Fits c g → Slack (length c.seats) c g k (length c.seats + k)
slack_first c g k fits =
    let room = queue_fits c g fits in
    let parts = fits.words.parts in
    elim (cases_lt k (g.walk + length c.popped)) [
      | inl cleared ↦ inl (cleared, omega (arith, room, parts))
      | inr not ↦ inr (omega (arith, not))
    ]
