-- The seat's own methods at the points at which a release, after it has given up the owner word, serves the oldest queued seat,
-- as equations.
use Rattle.std.proofs.Common.{◌≡◌, ◌≢◌, ℕ, refl, sym, ap, Option, Some, None}
use Rattle.std.proofs.lemmas.Bool.{ne_eqb, eq-eqb}
use Rattle.lfm_model.specs.declared.answers.Unlocked.{Unlocked}
use Rattle.lfm_words.specs.declared.pop_lists.Record.{Record}
use Rattle.lfm_protocol.specs.declared.answers.Answer.{Answer}
use Rattle.lfm_protocol.specs.declared.answers.Turn.TheVariants.{Ended}
use Rattle.lfm_protocol.specs.declared.points.Carrier.{Carrier}
use Rattle.lfm_protocol.specs.declared.points.Point.{Point}
use Rattle.lfm_protocol.specs.declared.points.Point.TheVariants.{Asleep, GrantWakeStore, ReleaseCountSubtract, ReleaseHandoffStore, TakeClearHead, TakeLinkLoad, WaitWakeStore}
use Rattle.lfm_protocol.specs.declared.points.Releaser.{Releaser}
use Rattle.lfm_protocol.specs.declared.points.Releaser.TheVariants.{Unlocker, Waiter}
use Rattle.lfm_protocol.specs.declared.points.Sleeper.{Sleeper}
use Rattle.lfm_protocol.specs.After.{loaded, releases, take}
use Rattle.lfm_laws.specs.table.Words.{stepped_by, link_of}
use Rattle.lfm_mutex.specs.calls.Runs.{opens, releasing}
use Rattle.lfm_mutex.specs.calls.FastPath.{release_turn}
use Rattle.lfm_table.proofs.tables.StepFacts.{made_of}

-- the push list was empty, so the release posts
pub cleared_none : (u : Releaser) (d t ps s n : ℕ) (o : Option Record) → (link_of n).next ≡ 0 → stepped_by (made_of d t ps (TakeClearHead (Carrier.Releaser u))) s n o ≡ opens (made_of d t ps (ReleaseHandoffStore u))
cleared_none u d t ps s n o none = let h = eq-eqb (link_of n).next 0 none in rw h refl

-- the push list was not empty, so its links are loaded
pub cleared_some : (u : Releaser) (d t ps s n : ℕ) (o : Option Record) → (link_of n).next ≢ 0 → stepped_by (made_of d t ps (TakeClearHead (Carrier.Releaser u))) s n o ≡ opens (made_of d t ps (TakeLinkLoad (Carrier.Releaser u) (link_of n).next))
cleared_some u d t ps s n o some = let h = ne_eqb (link_of n).next 0 some in rw h refl

-- the last link: its record is the oldest
pub last_link : (u : Releaser) (d t ps s n next : ℕ) (o : Option Record) → (link_of n).next ≡ 0 → stepped_by (made_of d t ps (TakeLinkLoad (Carrier.Releaser u) next)) s n o ≡ opens (made_of d t ps (GrantWakeStore (Carrier.Releaser u) (loaded next (link_of n))))
last_link u d t ps s n next o none = let h = eq-eqb (link_of n).next 0 none in rw h refl

-- one more link
pub more_links : (u : Releaser) (d t ps s n next : ℕ) (o : Option Record) → (link_of n).next ≢ 0 → stepped_by (made_of d t ps (TakeLinkLoad (Carrier.Releaser u) next)) s n o ≡ opens (made_of d t ps (TakeLinkLoad (Carrier.Releaser u) (link_of n).next))
more_links u d t ps s n next o some = let h = ne_eqb (link_of n).next 0 some in rw h refl

pub granted_to : (u : Releaser) (d t ps s n : ℕ) (r : Record) (o : Option Record)
    → stepped_by (made_of d t ps (GrantWakeStore (Carrier.Releaser u) r)) s n o ≡ releases (made_of d t ps (GrantWakeStore (Carrier.Releaser u) r)) u (Unlocked.Granted r.seat)
granted_to u d t ps s n r o = refl

-- a start_wait has released the mutex, and its seat sleeps
pub waited : (d t ps s n : ℕ) (released : Unlocked) (o : Option Record)
    → stepped_by (made_of d t ps (WaitWakeStore released)) s n o ≡ record { seat = made_of d t ps (Asleep Sleeper.Waiter); turn = Ended (Answer.Waiting released) }
waited d t ps s n released o = refl

-- The subtraction from the count

pub freed : (u : Releaser) (d t ps s n : ℕ) (o : Option Record) → n ≡ 1 → stepped_by (made_of d t ps (ReleaseCountSubtract u)) s n o ≡ releases (made_of d t ps (ReleaseCountSubtract u)) u Unlocked.Free
freed u d t ps s n o e = rw e refl

-- which seat a releaser serves doesn't depend on its own number
takes_as : (u : Releaser) (s : ℕ) (o : Option Record) → take (Carrier.Releaser u) s o ≡ take (Carrier.Releaser u) 0 o
takes_as u s None = refl
takes_as u s (Some r) = refl

pub not_freed : (u : Releaser) (d t ps s n : ℕ) (o : Option Record) → n ≢ 1 → stepped_by (made_of d t ps (ReleaseCountSubtract u)) s n o ≡ opens (made_of d t ps (take (Carrier.Releaser u) 0 o))
not_freed u d t ps s n o e = let h = ne_eqb n 1 e in rw h (ap (λ (q : Point). opens (made_of d t ps q)) (takes_as u s o))

-- How a call that releases has ended

another : releasing Unlocker ≡ releasing Waiter → ⊥
another e = cc

pub unlocks_as : (u : Releaser) (released : Unlocked) → releasing Unlocker ≡ releasing u → Ended (Answer.Unlocked released) ≡ release_turn u released
unlocks_as Unlocker released is = refl
unlocks_as Waiter released is = absurd (another is)

pub waits_as : (u : Releaser) (released : Unlocked) → releasing Waiter ≡ releasing u → Ended (Answer.Waiting released) ≡ release_turn u released
waits_as Unlocker released is = absurd (another (sym is))
waits_as Waiter released is = refl
