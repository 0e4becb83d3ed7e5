-- The track and its local search (engine.rs, `process`). Definitions only.
use Rattle.std.specs.Prelude.{Bool, true, false, cond, ◌&&◌, List, [], ◌∷◌, Float, Option, None, Some}
use Rattle.std.specs.Float.Ieee.{le, neg}
use Rattle.numbers_spec.specs.Arithmetic.{◌⊕◌, ◌⊖◌, ◌⊗◌, ◌⊘◌, zero⁺, one, at_least}
use Rattle.numbers_spec.specs.Exponential.{exp_of}
use Rattle.matcher_spec.specs.Features.{Features}
use Rattle.matcher_spec.specs.Index.{Matcher}
use Rattle.matcher_spec.specs.Search.{local_search}
use Rattle.matcher_spec.specs.declared.types.Candidate.{Candidate}
use Rattle.engine_spec.specs.Thresholds.{coast_most_ms, local_ms, support_correlation, support_recent, gain_ms}
use Rattle.engine_spec.specs.Windows.{◌after◌, same_place}
use Rattle.engine_spec.specs.declared.types.RecordedMs.{RecordedMs}
use Rattle.engine_spec.specs.declared.types.Hypothesis.{Hypothesis}

-- A place at this offset, with evidence from first to last and the correlation of the last.
abbrev pub hypothesis : Float → RecordedMs → RecordedMs → Float → Hypothesis
hypothesis offset first last correlation = record { offset_ms = offset; first_evidence_ms = first; last_evidence_ms = last; correlation = correlation }

-- What a local search leaves: the track, whether this window supports it, how far the best lay from it, and what was found.
pub record Tracked : Type 0 where
  pub accepted : Option Hypothesis
  pub supported : Bool
  pub innovation : Option Float
  pub found : List Candidate

-- No support: the track as it was, or none.
abbrev pub unsupported : Option Hypothesis → List Candidate → Tracked
unsupported track found = record { accepted = track; supported = false; innovation = None; found = found }

-- A track may coast up to 1,500 after its last evidence.
abbrev pub may_coast : RecordedMs → RecordedMs → Bool
may_coast now last = le (now after last) coast_most_ms

-- Whether a candidate supports a track at this offset.
unfoldable pub supports : Float → Candidate → Bool
supports offset best =
    le support_correlation best.score && (le support_recent best.recent_score && same_place best.offset_ms offset)

-- How far a supported track goes toward what was found, by the time since its last evidence.
unfoldable pub gain : Float → Float
gain dt = one ⊖ exp_of (neg dt ⊘ gain_ms)

unfoldable pub moved_offset : Float → Candidate → Float → Float
moved_offset offset best dt = offset ⊕ gain dt ⊗ (best.offset_ms ⊖ offset)

-- The track after the best of what a local search found.
unfoldable pub followed : Hypothesis → RecordedMs → List Candidate → Tracked
followed track now [] = unsupported (Some track) []
followed track now (best ∷ rest) =
    let offset = track.offset_ms in
    cond (supports offset best)
    (record {
      accepted = Some (hypothesis (moved_offset offset best (at_least zero⁺ (now after track.last_evidence_ms))) track.first_evidence_ms now best.score);
      supported = true;
      innovation = Some (best.offset_ms ⊖ offset);
      found = best ∷ rest;
    })
    (unsupported (Some track) (best ∷ rest))

-- A track that may still coast is looked for 100 either side, in a query with this evidence time; one that may not is dropped.
unfoldable pub tracked : Matcher → Features → RecordedMs → Option Hypothesis → Tracked
tracked m query now None = unsupported None []
tracked m query now (Some track) =
    cond (may_coast now track.last_evidence_ms)
    (followed track now (local_search m.reference m.fine query (track.offset_ms ⊖ local_ms) (track.offset_ms ⊕ local_ms)))
    (unsupported None [])
