-- What filling a query answers and leaves. Definitions only.
use Rattle.std.specs.Prelude.{◌-◌, ◌*◌, ◌≤◌, ◌≡◌, true, false, List, length, Float, Option, None, Some}
use Rattle.matcher_spec.specs.Centring.{radius}
use Rattle.matcher_spec.specs.Features.{Features}
use Rattle.matcher_spec.specs.Search.{FilledQuery, QueryFits, query_start}
use Rattle.matcher_spec.specs.declared.types.Reference.{Reference}
use Rattle.matcher_filling.specs.declared.query.Query.{Query}

-- The query of a searchable window: it stands at the fronts of the buffers, with so many frames from this time on, and has a place in the reference.
pub record QueryFilled (x : Reference) (w : Features) (q : Query) (work32 work64 : List Float) : Type 0 where
  pub filled : FilledQuery x w true work32 work64
  pub frames : q.frames ≡ length w.times - 2 * radius x.hop_ms
  pub start : q.start ≡ query_start (radius x.hop_ms) w
  pub fits : QueryFits x q.frames
  pub within : q.frames ≤ length w.times
  pub bands : w.bands ≡ x.bands

-- What filling answers and leaves: a query if the window is searchable.
unfoldable pub Answered : Reference → Features → Option Query → List Float → List Float → Type 0
Answered x w None work32 work64 = FilledQuery x w false work32 work64
Answered x w (Some q) work32 work64 = QueryFilled x w q work32 work64
