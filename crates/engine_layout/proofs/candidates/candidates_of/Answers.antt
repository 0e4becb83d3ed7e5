-- `engine_layout::candidates::candidates_of` meets its contract. Assumes nothing.
use Rattle.std.proofs.Common.{rules, tests, ◌*◌, ℕ}
use Rattle.engine_layout.specs.Layout.{part, candidate_of, candidates_of}
use Rattle.engine_layout.specs.Written.{no_candidate}
use Rattle.engine_layout.proofs.Made.{listed, made}
use Rattle.engine_layout.proofs.candidates.candidates_of.Goals as goal

pub returns : goal.returns
unfolding candidates_of listed
returns c =
    made (λ (i : ℕ). candidate_of (part (5 * i) 5 c.args.words.now)) (λ i y q k. search (rules, tests)) no_candidate c.from_fn.ensures.items
