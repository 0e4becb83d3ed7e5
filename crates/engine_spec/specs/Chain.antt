-- Document 01, "The chain": passing, interruption, jump, evidence, chain and coast, and the place shown, read from windows and computed answers only. Nothing here reads the engine's state. Definitions only.
use Rattle.std.specs.Prelude.{ℕ, zero, suc, ◌≤◌, ◌<◌, Bool, false, cond, not, ◌&&◌, ◌||◌, ◌⊎◌, ◌≡◌, T, ltb, get_or, Float, Option, None, Some, is_none}
use Rattle.std.specs.Float.Ieee.{le}
use Rattle.numbers_spec.specs.Arithmetic.{◌⊖◌, zero⁺}
use Rattle.engine_spec.specs.Thresholds.{coast_most_ms, passing_correlation, passing_margin, passing_half, chain_ms, chain_recent}
use Rattle.engine_spec.specs.Cases.{interrupting}
use Rattle.engine_spec.specs.Windows.{Window, evidence, endpoint_of, jumps_from, ◌after◌, same_place, current}
use Rattle.engine_spec.specs.Opening.{blank_candidate}
use Rattle.engine_spec.specs.Lists.{Answered}
use Rattle.engine_spec.specs.declared.types.RecordedMs.{RecordedMs}
use Rattle.engine_spec.specs.declared.types.SpectralDiagnostics.{SpectralDiagnostics}
use Rattle.engine_spec.specs.declared.types.Diagnostics.{Diagnostics}
use Rattle.engine_spec.specs.declared.types.Snapshot.{Snapshot}
use Rattle.engine_spec.specs.declared.types.Estimate.{Estimate}
use Rattle.engine_spec.specs.declared.types.State.TheVariants as state

-- ---- what one snapshot shows
-- A margin of 0.06 or more.
abbrev pub clear : Option Float → Bool
clear None = false
clear (Some margin) = le passing_margin margin

-- An answer passes (document 01) if it shows a whole search with correlation ≥ 0.25, margin ≥ 0.06 and both halves ≥ 0.10.
unfoldable pub passes : Snapshot → Bool
passes s =
    let x = s.diagnostics.spectral in
    x.global_search
    && (le passing_correlation x.correlation
    && (clear x.competing_peak_margin && (le passing_half x.first_half_correlation && le passing_half x.second_half_correlation)))

-- The best candidate's offset, if the search found one.
unfoldable pub best_offset : Diagnostics → Option Float
best_offset d = cond (ltb 0 d.candidate_count) (Some (get_or d.candidates 0 blank_candidate).offset_ms) None

-- The place shown: the estimate's offset, if there is one.
abbrev pub offset_shown : Option Estimate → Option Float
offset_shown None = None
offset_shown (Some e) = Some e.offset_ms

-- Both are there, and at most 80 apart.
abbrev pub both_near : Option Float → Option Float → Bool
both_near (Some a) (Some b) = same_place a b
both_near (Some a) None = false
both_near None b = false

-- ---- the computed answers of a list, in order, counted from 0
module _ (hop : Float) (a : ℕ → Answered) where
  abbrev pub window_at : ℕ → Window
  window_at i = (a i).submission.window

  abbrev pub shown_at : ℕ → Snapshot
  shown_at i = (a i).snapshot

  abbrev pub spectral_at : ℕ → SpectralDiagnostics
  spectral_at i = (shown_at i).diagnostics.spectral

  abbrev pub Passes : ℕ → Type 0
  Passes i = T (passes (shown_at i))

  -- A whole search is shown.
  abbrev pub whole_at : ℕ → Bool
  whole_at i = (spectral_at i).global_search

  -- The evidence time.
  abbrev pub when : ℕ → RecordedMs
  when i = evidence hop (window_at i)

  -- A jump from the answer before.
  abbrev pub jump_at : ℕ → Bool
  jump_at zero = false
  jump_at (suc i) = jumps_from hop (endpoint_of (window_at i)) (window_at (suc i))

  -- An interruption: a jump, or state Listening, Lost or Failed.
  abbrev pub interrupts : ℕ → Bool
  interrupts i = jump_at i || interrupting (shown_at i).state

  -- No interruption after i, up to and with j.
  abbrev pub Unbroken : ℕ → ℕ → Type 0
  Unbroken i j = (k : ℕ) → i < k → k ≤ j → T (not (interrupts k))

  -- p is the last passing answer before k.
  pub record Latest (p k : ℕ) : Type 0 where
    pub before : p < k
    pub passed : Passes p
    pub none_since : (m : ℕ) → p < m → m < k → Passes m → ⊥

  -- Neighbours of a chain: best offsets that differ by at most 80, evidence times by at most 2,500.
  abbrev pub neighbouring : ℕ → ℕ → Bool
  neighbouring p q = both_near (best_offset (shown_at p).diagnostics) (best_offset (shown_at q).diagnostics) && current (when q) (when p)

  -- A whole search that doesn't pass keeps its best within 80 of the last passing one, with margin ≥ 0.06 and evidence at most 2,500 later.
  abbrev pub keeping : ℕ → ℕ → Bool
  keeping p k =
      both_near (best_offset (shown_at k).diagnostics) (best_offset (shown_at p).diagnostics)
      && (clear (spectral_at k).competing_peak_margin && current (when k) (when p))

  -- A chain: every passing answer from i to j.
  pub record Chain (i j : ℕ) : Type 0 where
    pub order : i ≤ j
    pub first : Passes i
    pub last : Passes j
    pub neighbours : (p q : ℕ) → i ≤ p → q ≤ j → Latest p q → Passes q → T (neighbouring p q)
    pub unbroken : Unbroken i j
    pub weak : (p k : ℕ) → i ≤ p → k < j → Latest p k → T (whole_at k) → (Passes k → ⊥) → T (keeping p k)
    -- last less first evidence ≥ 1,000 − hop
    pub long : T (le (chain_ms ⊖ hop) (when j after when i))
    pub recent : T (le chain_recent (spectral_at j).recent_correlation)

  -- An answer ends a chain if it is the last of one.
  abbrev pub EndsChain : ℕ → Type 0
  EndsChain j = (i : ℕ) × Chain i j

  -- It ends a chain, or follows one without interruption: it comes after the chain's last answer, and no answer since, itself counted, is an interruption.
  pub record OnChain (i : ℕ) : Type 0 where
    pub chain : ℕ
    pub order : chain ≤ i
    pub ends : EndsChain chain
    pub unbroken : Unbroken chain i

  -- The last answer up to and with i that has no withhold reason.
  pub record LastSupported (from i : ℕ) : Type 0 where
    pub order : from ≤ i
    pub supported : T (is_none (shown_at from).withhold_reason)
    pub withheld_since : (k : ℕ) → from < k → k ≤ i → T (not (is_none (shown_at k).withhold_reason))

  -- The coast of i: its evidence time less that of the last answer, itself counted, with no withhold reason; from 0 to 1,500.
  pub record Coasts (i : ℕ) : Type 0 where
    pub from : ℕ
    pub last_supported : LastSupported from i
    pub is : (spectral_at i).coast_ms ≡ when i after when from
    pub least : T (le zero⁺ (spectral_at i).coast_ms)
    pub greatest : T (le (spectral_at i).coast_ms coast_most_ms)

  -- ---- the place shown
  abbrev pub place_at : ℕ → Option Float
  place_at i = offset_shown (shown_at i).estimate

  -- What an answer shows that ends a chain: Locked, no withhold reason, coast 0, and a place at most 80 from the best offset.
  pub record Ending (i : ℕ) : Type 0 where
    pub locked : (shown_at i).state ≡ state.Locked
    pub supported : T (is_none (shown_at i).withhold_reason)
    pub coast : (spectral_at i).coast_ms ≡ zero⁺
    pub place : T (both_near (place_at i) (best_offset (shown_at i).diagnostics))

  -- The place is that of the answer before, which is Locked too.
  pub record Coasting (i : ℕ) : Type 0 where
    pub before : ℕ
    pub is : i ≡ suc before
    pub locked : (shown_at before).state ≡ state.Locked
    pub place : place_at i ≡ place_at before

  -- Locking, at the best offset of the last passing answer up to it, itself counted.
  pub record LockingAt (i : ℕ) : Type 0 where
    pub locking : (shown_at i).state ≡ state.Locking
    pub newest : ℕ
    pub latest : Latest newest (suc i)
    pub place : place_at i ≡ best_offset (shown_at newest).diagnostics

  abbrev pub Placed : ℕ → Type 0
  Placed i = ((shown_at i).state ≡ state.Locked) ⊎ LockingAt i
