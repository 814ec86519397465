-- What a worker's answers are.
use Rattle.std.specs.Prelude.{◌≡◌, ◌≢◌, ℕ, ◌+◌, ◌*◌, ◌<◌, ◌≤◌, List, [], ◌∷◌, ◌++◌, length, reverse, Option, Some, None, option_to_list, slice_get, if◌then◌else◌}
use Rattle.std.specs.List.{filter_map}
use Rattle.prefix_width.specs.Nexthop.{Hop}
use Rattle.rib_store.specs.Plan.{Planned}
use Rattle.plan_cut.specs.VersionTable.{answer_at}
use Rattle.route_lang.specs.Script.{Reading}
use Rattle.threaded_replay.specs.declared.got.Got.{Got}
use Rattle.threaded_replay.specs.Legal.{Family, Get, by_family, is_in, last, since}
use Rattle.threaded_replay.specs.Tally.{Tally}

-- ---- one get

-- a script of these plans, of which nothing else is asked
abbrev pub of_plans : Planned 32 → Planned 128 → Reading
of_plans plan plan6 = record { inet = plan; inet6 = plan6; lines = []; profile = plan.profile }

-- the answer of a get at a version
abbrev pub got_at : ℕ → Reading → Get → ℕ → Got
got_at most script get v =
    by_family get.family
    (record { version = v; inet = answer_at most script.inet v get.addr get.flow; inet6 = None })
    (record { version = v; inet = None; inet6 = answer_at most script.inet6 v get.addr get.flow })

-- a right answer, at a version that the get may have
pub record IsRight (most : ℕ) (script : Reading) (get : Get) (got : Got) : Type 0 where
  pub since : since most script get ≤ got.version
  pub last : got.version ≤ last most script get.family
  pub answer : got ≡ got_at most script get got.version

-- the nexthop of an answer in a family
abbrev pub nexthop_in : Family → Got → Option Hop
nexthop_in family got = by_family family got.inet got.inet6

-- a get is answered so by passes that were as `now`, and they are as `next` then
pub record IsServed (most : ℕ) (script : Reading) (get : Get) (now : Family → Tally) (got : Got) (next : Family → Tally) : Type 0 where
  pub right : IsRight most script get got
  pub later : (now get.family).seen ≤ got.version
  pub seen : (next get.family).seen ≡ got.version
  pub lookups : (next get.family).lookups ≡ (now get.family).lookups + 1
  pub hops : (next get.family).hops ≡ option_to_list (nexthop_in get.family got) ++ (now get.family).hops
  pub number : (next get.family).number ≡ (now get.family).number
  pub others : (h : Family) → h ≢ get.family → next h ≡ now h

-- ---- a worker's gets

-- get j with its answer, if it is of the family
abbrev pub entry_of : Family → ℕ → Option Get → Got → List (ℕ × Got)
entry_of family j None got = []
entry_of family j (Some get) got = if is_in family get then (j, got) ∷ [] else []

-- of the gets j, j + n and so on, which are answered so, those of the family with their answers
abbrev pub entries_from : Family → List Get → ℕ → ℕ → List Got → List (ℕ × Got)
entries_from family gets n j [] = []
entries_from family gets n j (got ∷ gots) = entry_of family j (slice_get gets j) got ++ entries_from family gets n (j + n) gots

-- pass w, that was new, has answered these gets, and no others
pub record IsTallied (family : Family) (w : ℕ) (entries : List (ℕ × Got)) (tally : Tally) : Type 0 where
  pub number : tally.number ≡ w
  pub lookups : tally.lookups ≡ length entries
  pub seen : (front : List (ℕ × Got)) (e : ℕ × Got) → entries ≡ front ++ e ∷ [] → tally.seen ≡ e.1.version
  pub hops : tally.hops ≡ reverse (filter_map (λ (e : ℕ × Got). nexthop_in family e.1) entries)

-- worker w of n has answered its first gets so, by new passes that are now as `now`
pub record Serves (most : ℕ) (script : Reading) (gets : List Get) (n w : ℕ) (gots : List Got) (now : Family → Tally) : Type 0 where
  pub each : (i : ℕ) (got : Got) → slice_get gots i ≡ Some got → (get : Get) × (slice_get gets (w + i * n) ≡ Some get) × IsRight most script get got
  pub rising : (i k : ℕ) (got later : Got) (a b : Get) → i < k → slice_get gots i ≡ Some got → slice_get gots k ≡ Some later
      → slice_get gets (w + i * n) ≡ Some a → slice_get gets (w + k * n) ≡ Some b → a.family ≡ b.family → got.version ≤ later.version
  pub below : (i : ℕ) (got : Got) (get : Get) → slice_get gots i ≡ Some got → slice_get gets (w + i * n) ≡ Some get → got.version ≤ (now get.family).seen
  pub tallied : (h : Family) → IsTallied h w (entries_from h gets n w gots) (now h)

-- worker w of n has answered all its gets so, and its passes are these
pub record IsDone (most : ℕ) (script : Reading) (gets : List Get) (n w : ℕ) (gots : List Got) (inet inet6 : Tally) : Type 0 where
  pub serves : Serves most script gets n w gots (λ h. by_family h inet inet6)
  pub all : length gets ≤ w + length gots * n
