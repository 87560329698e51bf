-- Whether a stamp is left for the record of a seat. Stamps have 48 bits, and a seat that is counted has to push. So it loads the
-- push word before the first step of its `ask`, and asks only if 2^13 stamps are left: the seats that have found this and have
-- not pushed since are fewer, so that each of them finds a stamp.
use Rattle.std.specs.Prelude.{◌≡◌, ⊤, ℕ, ◌+◌, ◌^◌, ◌<◌, ◌≤◌, Bool, true, ◌&&◌, List, [], ◌∷◌, nat_eq, nat_lt, if◌then◌else◌, slice_index, slice_set}
use Rattle.lfm_words.specs.Words.{link_of}
use Rattle.lfm_protocol.specs.After.{same_link}
use Rattle.lfm_protocol.specs.declared.points.Point.{Point}
use Rattle.lfm_protocol.specs.declared.points.Point.TheVariants.{PushExchange}
use Rattle.lfm_table.specs.Rule.{sum_over}
use Rattle.lfm_table.specs.declared.seat_view.Seen.{Seen}
use Rattle.lfm_pool.specs.declared.pool.TableSeat.{TableSeat}
use Rattle.lfm_pool.specs.declared.view.Known.{Known}
use Rattle.lfm_pool.specs.declared.view.PoolView.{PoolView}
pub use Rattle.lfm_pool.specs.Bounds.{most_posts, most_stamps}
use Rattle.lfm_pool.specs.Layout.{own_at}
use Rattle.lfm_pool.specs.Tables.{known}

-- 1 if a step at this point, which found this number, has pushed a record, else 0
abbrev pub pushed_at : Point → ℕ → ℕ
pushed_at (PushExchange pusher expected) found = if same_link (link_of found) expected then 1 else 0
pushed_at _ found = 0

-- how many of these steps have pushed a record
abbrev pub pushes : List Seen → ℕ
pushes [] = 0
pushes (step ∷ steps) = pushed_at step.point step.found + pushes steps

-- the stamp of the last push before this number was in the push word
abbrev pub stamp_in : ℕ → ℕ
stamp_in word = (link_of word).stamp

-- The seat may push a record: it has found that stamps are left, and has pushed none since.
abbrev pub is_admitted : Known → Bool
is_admitted k = nat_eq k.admission.next_push (pushes k.view.trail + 1) && nat_lt (stamp_in k.admission.found) most_stamps

-- 1 if the seat may push a record in mutex m, else 0
abbrev pub admitted_in : ℕ → PoolView → ℕ
admitted_in m v = if is_admitted (known v m) then 1 else 0

-- A stamp is left for each seat that may push a record in mutex m, and one more, if these are the words and views of the pool.
abbrev pub HasStamps : ℕ → List ℕ → List PoolView → Type 0
HasStamps m words views = stamp_in (slice_index words (own_at m 3)) + sum_over (admitted_in m) views + 1 < 2 ^ 48

-- The push word of mutex m has had the stamp that a seat with this view has found there when it looked for one.
abbrev pub HasSeen : ℕ → List ℕ → PoolView → Type 0
HasSeen m words v = stamp_in (known v m).admission.found ≤ stamp_in (slice_index words (own_at m 3))

-- The seat, which knows this of a mutex, may make a step at this point: it needs an admission for the exchange that pushes.
abbrev pub MayPush : Point → Known → Type 0
MayPush (PushExchange pusher seen) k = is_admitted k ≡ true
MayPush _ k = ⊤

-- what a seat knows after it has loaded the push word of mutex m, and found this number there
abbrev pub with_admission : PoolView → ℕ → ℕ → PoolView
with_admission v m found =
    record v { parts = slice_set v.parts m (record (known v m) { admission = record { found = found; next_push = pushes (known v m).view.trail + 1 } }) }

-- the seat after such a load
abbrev pub after_load : TableSeat → ℕ → ℕ → TableSeat
after_load s m found = record s { place = record s.place { me = (with_admission s.place.me.0 m found, s.place.me.1) } }

-- the seat may push a record in mutex m
abbrev pub IsAdmittedIn : TableSeat → ℕ → Type 0
IsAdmittedIn s m = is_admitted (known s.place.me.0 m) ≡ true
