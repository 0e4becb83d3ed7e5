-- A search by a window's query is the search of the window. Assumes nothing.
use Rattle.std.proofs.Common.{◌≡◌, ℕ, ◌+◌, ◌≤◌, false, List, [], length, Float, refl, subst, ◌∙◌, arith}
use Rattle.std.proofs.Math.Nat.{mul-le-mul_left}
use Rattle.matcher_spec.specs.Energy.{Bands}
use Rattle.matcher_spec.specs.Features.{Features}
use Rattle.matcher_spec.specs.Index.{Matcher, lent_bands}
use Rattle.matcher_spec.specs.Search.{FilledQuery, WorkRoom, local_found, local_search, whole_found, whole_search}
use Rattle.matcher_spec.specs.declared.types.Reference.{Reference}
use Rattle.matcher_filling.specs.Queries.{QueryFilled}
use Rattle.matcher_filling.specs.declared.query.Query.{Query}

-- Without a query there is nothing.
pub local_none : (x : Reference) (fine : Bands) (w : Features) (work32 work64 : List Float) (lower upper : Float) → FilledQuery x w false work32 work64 → local_search x fine w lower upper ≡ []
unfolding local_search
local_none x fine w work32 work64 lower upper t = rw (← t.told) refl

pub whole_none : (m : Matcher) (w : Features) (work32 work64 : List Float) → FilledQuery m.reference w false work32 work64 → whole_search m w ≡ []
unfolding whole_search
whole_none m w work32 work64 t = rw (← t.told) refl

-- The query is the window's.
pub local_by : (x : Reference) (fine : Bands) (w : Features) (q : Query) (work32 work64 : List Float) (lower upper : Float) → QueryFilled x w q work32 work64
    → local_found x fine (lent_bands x.bands q.frames work32 work64) q.start lower upper ≡ local_search x fine w lower upper
unfolding local_search
local_by x fine w q work32 work64 lower upper t = rw (← t.filled.told, t.frames, t.start, t.filled.query refl) refl

pub whole_by : (m : Matcher) (w : Features) (q : Query) (work32 work64 : List Float) → QueryFilled m.reference w q work32 work64
    → whole_found m (lent_bands m.reference.bands q.frames work32 work64) q.start ≡ whole_search m w
unfolding whole_search
whole_by m w q work32 work64 t = rw (← t.filled.told, t.frames, t.start, t.filled.query refl) refl

-- Room for the window is room for its query.
pub query_room : (x : Reference) (w : Features) (q : Query) (work32 work64 : List Float) → QueryFilled x w q work32 work64 → WorkRoom x w.bands (length w.times) work32 work64 → WorkRoom x x.bands q.frames work32 work64
query_room x w q work32 work64 t r =
    let room32 = rw t.bands at r.work32_room_lem in
    let room64 = rw t.bands at r.work64_room_lem in
    let values = mul-le-mul_left x.bands t.within in
    let more : q.frames + 1 ≤ length w.times + 1 = omega (arith, t.within) in
    let energies = mul-le-mul_left x.bands more in
    record { work32_room_lem = omega (arith, room32, values); work64_room_lem = omega (arith, room64, energies) }

-- A query that stays is still the window's.
pub query_stays : (x : Reference) (w : Features) (q : Query) (work32 old new : List Float) → lent_bands x.bands q.frames work32 new ≡ lent_bands x.bands q.frames work32 old → QueryFilled x w q work32 old → QueryFilled x w q work32 new
query_stays x w q work32 old new s t = record {
  filled = record { told = t.filled.told; query = λ e. subst (λ (n : ℕ). lent_bands x.bands n work32 new ≡ lent_bands x.bands n work32 old) t.frames s ∙ t.filled.query e };
  frames = t.frames;
  start = t.start;
  fits = t.fits;
  within = t.within;
  bands = t.bands;
}
