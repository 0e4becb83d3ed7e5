-- The lock rules: whole searches, pending, and the end of a chain (engine.rs, `process`). No clock stands among them. Definitions only.
use Rattle.std.specs.Prelude.{Bool, true, false, cond, not, ◌&&◌, ◌||◌, List, [], ◌∷◌, Float, Option, None, Some}
use Rattle.std.specs.Float.Ieee.{le, lt}
use Rattle.numbers_spec.specs.Arithmetic.{◌⊖◌, absolute, least}
use Rattle.matcher_spec.specs.Index.{Matcher}
use Rattle.matcher_spec.specs.Search.{whole_search}
use Rattle.matcher_spec.specs.Candidates.{margin_of}
use Rattle.matcher_spec.specs.declared.types.Candidate.{Candidate}
use Rattle.engine_spec.specs.Thresholds.{same_place_ms, supported_interval_ms, search_interval_ms, passing_correlation, passing_margin, passing_half, chain_ms, chain_recent}
use Rattle.engine_spec.specs.Windows.{Window, query, endpoint_of, evidence, ◌after◌, same_place, current}
use Rattle.engine_spec.specs.Tracking.{hypothesis, Tracked, tracked}
use Rattle.engine_spec.specs.Milestones.{after_passing, after_chain}
use Rattle.engine_spec.specs.declared.types.RecordedMs.{RecordedMs}
use Rattle.engine_spec.specs.declared.types.Reached.{Reached}
use Rattle.engine_spec.specs.declared.types.Lock.{Lock}
use Rattle.engine_spec.specs.declared.types.Hypothesis.{Hypothesis}

-- ---- a whole search
-- Due 500 after the last one, or 2,000 where the window supports the track.
abbrev pub is_due : Bool → RecordedMs → RecordedMs → Bool
is_due supported endpoint last = le (cond supported supported_interval_ms search_interval_ms) (endpoint after last)

-- It passes by its best candidate's correlation and halves, and by its margin.
unfoldable pub passing : List Candidate → Bool
passing [] = false
passing (best ∷ rest) =
    le passing_correlation best.score
    && (le passing_margin (margin_of (best ∷ rest)) && le passing_half (least best.first_half_score best.second_half_score))

-- ---- pending
-- A passing search carries pending on, with its first evidence, where that is current and at the same place. Otherwise it starts anew.
unfoldable pub first_evidence : Option Hypothesis → Float → RecordedMs → RecordedMs
first_evidence None offset now = now
first_evidence (Some old) offset now = cond (same_place old.offset_ms offset && current now old.last_evidence_ms) old.first_evidence_ms now

abbrev pub started_or_carried : Option Hypothesis → Candidate → RecordedMs → Option Hypothesis
started_or_carried pending best now = Some (hypothesis best.offset_ms (first_evidence pending best.offset_ms now) now best.score)

-- A search that doesn't pass holds pending where its best is at the same place, unambiguous, and pending current.
unfoldable pub holds : Float → RecordedMs → List Candidate → RecordedMs → Bool
holds offset last [] now = false
holds offset last (best ∷ rest) now = same_place best.offset_ms offset && (le passing_margin (margin_of (best ∷ rest)) && current now last)

-- Otherwise it drops it.
unfoldable pub held_or_dropped : Option Hypothesis → List Candidate → RecordedMs → Option Hypothesis
held_or_dropped None found now = None
held_or_dropped (Some old) found now = cond (holds old.offset_ms old.last_evidence_ms found now) (Some old) None

-- ---- the end of a chain
-- 1,000 less a hop of fresh evidence, and recent support. The window's length is no further condition.
unfoldable pub confirms : Float → RecordedMs → RecordedMs → Candidate → Bool
confirms hop first now best = le (chain_ms ⊖ hop) (now after first) && le chain_recent best.recent_score

-- A track at the end of a chain: kept where the window supports it at the chain's place, else begun there.
unfoldable pub kept_or_replaced : Option Hypothesis → Bool → Candidate → RecordedMs → Option Hypothesis
kept_or_replaced None supported best now = Some (hypothesis best.offset_ms now now best.score)
kept_or_replaced (Some track) supported best now =
    cond (lt same_place_ms (absolute (track.offset_ms ⊖ best.offset_ms)) || not supported)
    (Some (hypothesis best.offset_ms now now best.score))
    (Some track)

-- ---- the searches of one window
-- What they leave: the lock, which milestones are there, whether a whole search was made, what the last search found, whether the window supports the track, and how far the local best lay from it.
pub record Searched : Type 0 where
  pub lock : Lock
  pub reached : Reached
  pub global : Bool
  pub found : List Candidate
  pub supported : Bool
  pub innovation : Option Float

abbrev pub lock_of : Option Hypothesis → Option Hypothesis → RecordedMs → Lock
lock_of pending accepted last = record { pending = pending; accepted = accepted; last_global_search_ms = last }

-- After a passing whole search of a window with this evidence time and endpoint; its pending has this first evidence.
unfoldable pub passed : Float → RecordedMs → RecordedMs → Reached → RecordedMs → Tracked → Candidate → List Candidate → Searched
passed hop now endpoint k first t best rest =
    let pending = Some (hypothesis best.offset_ms first now best.score) in
    cond (confirms hop first now best)
    (record {
      lock = lock_of pending (kept_or_replaced t.accepted t.supported best now) endpoint;
      reached = after_chain k;
      global = true;
      found = best ∷ rest;
      supported = true;
      innovation = t.innovation;
    })
    (record {
      lock = lock_of pending t.accepted endpoint;
      reached = after_passing k;
      global = true;
      found = best ∷ rest;
      supported = t.supported;
      innovation = t.innovation;
    })

-- After one that doesn't pass.
abbrev pub not_passed : RecordedMs → RecordedMs → Reached → Option Hypothesis → Tracked → List Candidate → Searched
not_passed now endpoint k pending t found = record {
  lock = lock_of (held_or_dropped pending found now) t.accepted endpoint;
  reached = k;
  global = true;
  found = found;
  supported = t.supported;
  innovation = t.innovation;
}

-- After a whole search that found these.
unfoldable pub whole_searched : Float → RecordedMs → RecordedMs → Reached → Option Hypothesis → Tracked → List Candidate → Searched
whole_searched hop now endpoint k pending t [] = not_passed now endpoint k pending t []
whole_searched hop now endpoint k pending t (best ∷ rest) =
    cond (passing (best ∷ rest))
    (passed hop now endpoint k (first_evidence pending best.offset_ms now) t best rest)
    (not_passed now endpoint k pending t (best ∷ rest))

-- Without a whole search: pending and search time stay.
abbrev pub locally_searched : Reached → Lock → Tracked → Searched
locally_searched k l t = record {
  lock = lock_of l.pending t.accepted l.last_global_search_ms;
  reached = k;
  global = false;
  found = t.found;
  supported = t.supported;
  innovation = t.innovation;
}

-- After a local search that left this track: with a whole search, or without.
abbrev pub searched_if : Bool → Matcher → Float → Window → Reached → Lock → Tracked → Searched
searched_if whole m hop w k l t =
    cond whole
    (whole_searched hop (evidence hop w) (endpoint_of w) k l.pending t (whole_search m (query w)))
    (locally_searched k l t)

-- A local search for the track, if there is one, then a whole search, if one is granted and due.
unfoldable pub searched : Bool → Matcher → Float → Window → Reached → Lock → Searched
searched granted m hop w k l =
    let t = tracked m (query w) (evidence hop w) l.accepted in
    searched_if (granted && is_due t.supported (endpoint_of w) l.last_global_search_ms) m hop w k l t
