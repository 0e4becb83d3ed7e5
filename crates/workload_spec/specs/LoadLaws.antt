-- What is proved of every load. Definitions only.
use Rattle.std.specs.Prelude.{ℕ, ◌+◌, ◌*◌, ◌%◌, ◌^◌, ◌≤◌, ◌<◌, false, ◌≡◌, T, eqb, Float, Option, None, is_none}
use Rattle.std.specs.Float.{binary64}
use Rattle.std.specs.Float.Ieee.{fits}
use Rattle.std.specs.Float.Ieee.Exact.{HasValue}
use Rattle.numbers_spec.specs.Rows.{tabulate, row, Every, F32}
use Rattle.matcher_spec.specs.Features.{Features}
use Rattle.matcher_spec.specs.Index.{Index, accepts_reference}
use Rattle.matcher_spec.specs.Limits.{frames_most, window_most, bands_most}
use Rattle.engine_spec.specs.Opening.{opening}
use Rattle.engine_spec.specs.Refusals.{hop_in_range, index_fits, valid_configuration, window_refusal}
use Rattle.engine_spec.specs.Windows.{query, indexed}
use Rattle.engine_spec.specs.declared.types.Configuration.{Configuration}
use Rattle.engine_spec.specs.Results as answer
use Rattle.workload_spec.specs.Draws.{drawn}
use Rattle.workload_spec.specs.Load.{load_value, value_at, load}
use Rattle.workload_spec.specs.Fill.{filling_number}
use Rattle.workload_spec.specs.declared.types.LoadRefusal.{LoadRefusal}

-- ---- what is drawn
-- No draw leaves 64 bits, and from a seed above 0 none is 0.
abbrev pub DrawnBelow : Type 0
DrawnBelow = (seed k : ℕ) → seed < 2 ^ 64 → drawn seed k < 2 ^ 64

abbrev pub NoneZero : Type 0
NoneZero = (seed k : ℕ) → 0 < seed → seed < 2 ^ 64 → 0 < drawn seed k

-- ---- values
-- Nothing is rounded in a value: it is (n mod 4,096) / 256 exactly.
abbrev pub ValueExact : Type 0
ValueExact = (n : ℕ) → HasValue (load_value n) false (n % 4096) 256

-- Each is an f32.
abbrev pub ValuesF32 : Type 0
ValuesF32 = (seed : ℕ) (hop : Float) (bands frames : ℕ) → Every F32 (load seed hop bands frames).values

-- Band after band: the frames of band b are drawn after those of all bands before it.
abbrev pub BandAfterBand : Type 0
BandAfterBand =
    (seed : ℕ) (hop : Float) (bands frames b : ℕ) → b < bands
    → row frames (load seed hop bands frames).values b ≡ tabulate (λ (i : ℕ). value_at seed (b * frames + i)) frames

-- ---- loads as references and windows
-- An f64 that is a hop.
pub record Hop (hop : Float) : Type 0 where
  pub held : T (fits binary64 hop)
  pub range : T (hop_in_range hop)

-- A load of two frames or more and a band or more is a reference that can be searched,
abbrev pub Searchable : Type 0
Searchable =
    (seed : ℕ) (hop : Float) (bands frames : ℕ) → Hop hop → 2 ≤ frames → frames ≤ frames_most → 1 ≤ bands
    → T (accepts_reference hop bands (load seed hop bands frames).times (load seed hop bands frames).values)

-- and within the limits it is opened, with its index, by every valid configuration and index buffers that are long enough.
pub record OpenedWithIndex (c : Configuration) (hop : Float) (reference : Features) (x : Index) : Type 0 where
  pub opened : (opening c hop reference x).answer ≡ answer.Opened
  pub with_index_lem : T (indexed (opening c hop reference x).engine.settings)

abbrev pub LoadOpens : Type 0
LoadOpens =
    (seed : ℕ) (hop : Float) (bands frames : ℕ) (c : Configuration) (x : Index) → Hop hop → 2 ≤ frames → frames ≤ frames_most → 1 ≤ bands → bands ≤ bands_most
    → T (valid_configuration c) → T (index_fits frames bands x) → OpenedWithIndex c hop (query (load seed hop bands frames)) x

-- A load of the size of a window is one that no submission refuses by itself (9 to 12).
abbrev pub LoadHeard : Type 0
LoadHeard =
    (seed : ℕ) (hop : Float) (bands frames : ℕ) → Hop hop → 1 ≤ frames → frames ≤ window_most → 1 ≤ bands → bands ≤ bands_most
    → window_refusal (load seed hop bands frames) ≡ None

-- ---- what is refused
-- The number tells a load that is filled from one that is refused.
abbrev pub FilledByNumber : Type 0
FilledByNumber = (r : Option LoadRefusal) → is_none r ≡ eqb (filling_number r) 0
