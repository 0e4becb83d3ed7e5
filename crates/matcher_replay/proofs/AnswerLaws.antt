-- What is answered to a case, from what its parts are known to be. Assumes nothing.
use Rattle.std.proofs.Common.{◌≡◌, ℕ, Bool, true, false, cond, List, length, ap, ◌∙◌, sym}
use lib.Ieee.{Float}
use Rattle.numbers_spec.specs.Arithmetic.{◌⊕◌, ◌⊖◌}
use Rattle.matcher_spec.specs.Candidates.{eight_of}
use Rattle.matcher_spec.specs.declared.types.Candidate.{Candidate}
use Rattle.matcher_spec.specs.Index.{Index, Matcher, accepts_reference, filled, lent, lent_matcher, matcher_of}
use Rattle.matcher_spec.specs.Search.{local_search, whole_search}
use Rattle.matcher_spec.specs.Features.{Features, features}
use Rattle.matcher_replay.specs.Agreement.{answers_in, heard_in, local_of, offset_of, reference_of, reference_sound, reference_times, rejected, searched_in, whole_of, window_sound, window_times}
use Rattle.matcher_replay.specs.Digests.{with_candidates}
use Rattle.replays.specs.Digests.{index_digest}
use Rattle.matcher_replay.specs.declared.answers.Answers.{Answers}
use Rattle.matcher_replay.specs.declared.case.Case.{Case}

module _ (c : Case) (x : Index) where
  module _ (w : Features) where
    -- the searches of the matcher that the index holds
    pub whole_is : {m : Matcher} {l : List Candidate} → m ≡ lent_matcher (reference_of c) x → l ≡ whole_search m w → l ≡ whole_of c x w
    unfolding whole_of
    whole_is m e = e ∙ (λ i. whole_search (m i) w)

    pub local_is : {m : Matcher} {offset : Float} {l : List Candidate} → m ≡ lent_matcher (reference_of c) x → offset ≡ offset_of c
        → l ≡ local_search m.reference m.fine w (offset ⊖ c.reach) (offset ⊕ c.reach) → l ≡ local_of c x w
    unfolding local_of
    local_is m o e = e ∙ (λ i. local_search (m i).reference (m i).fine w (o i ⊖ c.reach) (o i ⊕ c.reach))

    pub searched : {index whole_count whole_digest local_count local_digest : ℕ} {whole local : List Candidate} → index ≡ index_digest x
        → whole ≡ whole_of c x w → whole_count ≡ length whole → whole_digest ≡ with_candidates 0 (eight_of whole)
        → local ≡ local_of c x w → local_count ≡ length local → local_digest ≡ with_candidates 0 (eight_of local)
        → ◌≡◌ {A = Answers} (record { filled = 1; index = index; whole_count = whole_count; whole = whole_digest; local_count = local_count; local = local_digest }) (searched_in c x w)
    unfolding searched_in
    searched e w n u l m v =
        λ i. record {
          filled = 1;
          index = e i;
          whole_count = (n ∙ ap length w) i;
          whole = (u ∙ ap (λ (r : List Candidate). with_candidates 0 (eight_of r)) w) i;
          local_count = (m ∙ ap length l) i;
          local = (v ∙ ap (λ (r : List Candidate). with_candidates 0 (eight_of r)) l) i;
        }

  pub heard : {times values : List Float} {r : Answers} → times ≡ window_times c → values ≡ window_sound c
      → r ≡ searched_in c x (features c.bands times values) → r ≡ heard_in c x
  unfolding heard_in
  heard t v e = e ∙ (λ i. searched_in c x (features c.bands (t i) (v i)))

  -- a reference that is rejected
  pub refused : {times values : List Float} {accepted : Bool} {r : Answers} → times ≡ reference_times c → values ≡ reference_sound c
      → accepted ≡ accepts_reference c.hop c.bands times values → accepted ≡ false → r ≡ rejected → r ≡ answers_in c x
  unfolding answers_in
  refused t v a n e =
      let b = sym n ∙ a ∙ (λ i. accepts_reference c.hop c.bands (t i) (v i)) in
      e
      ∙ (λ i.
      cond (b i)
      (heard_in c
      (lent
      (filled (b i) (matcher_of c.hop c.bands (reference_times c) (reference_sound c)).fine.values x.fine)
      (filled (b i) (matcher_of c.hop c.bands (reference_times c) (reference_sound c)).coarse.values x.coarse)
      (filled (b i) (matcher_of c.hop c.bands (reference_times c) (reference_sound c)).fine.energy x.fine_energy)
      (filled (b i) (matcher_of c.hop c.bands (reference_times c) (reference_sound c)).coarse.energy x.coarse_energy)))
      rejected)

  -- one that is accepted
  pub answered : {times values f g p q : List Float} {accepted : Bool} {r : Answers} → times ≡ reference_times c → values ≡ reference_sound c
      → accepted ≡ accepts_reference c.hop c.bands times values
      → f ≡ filled accepted (matcher_of c.hop c.bands times values).fine.values x.fine
      → g ≡ filled accepted (matcher_of c.hop c.bands times values).coarse.values x.coarse
      → p ≡ filled accepted (matcher_of c.hop c.bands times values).fine.energy x.fine_energy
      → q ≡ filled accepted (matcher_of c.hop c.bands times values).coarse.energy x.coarse_energy
      → accepted ≡ true → r ≡ heard_in c (lent f g p q) → r ≡ answers_in c x
  unfolding answers_in
  answered t v a ef eg ep eq n e =
      let b = a ∙ (λ i. accepts_reference c.hop c.bands (t i) (v i)) in
      e
      ∙ (λ i. cond (sym n i) (heard_in c (lent (ef i) (eg i) (ep i) (eq i))) rejected)
      ∙ (λ i.
      cond (b i)
      (heard_in c
      (lent
      (filled (b i) (matcher_of c.hop c.bands (t i) (v i)).fine.values x.fine)
      (filled (b i) (matcher_of c.hop c.bands (t i) (v i)).coarse.values x.coarse)
      (filled (b i) (matcher_of c.hop c.bands (t i) (v i)).fine.energy x.fine_energy)
      (filled (b i) (matcher_of c.hop c.bands (t i) (v i)).coarse.energy x.coarse_energy)))
      rejected)
