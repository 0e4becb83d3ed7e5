-- `workload::load::fill` meets its contract where it fills. Assumes nothing.
use lib.Ieee.{of_bits, neg}
use Rattle.std.proofs.Common.{◌≡◌, ◌∙◌, length, replicate}
use Rattle.numbers_spec.proofs.ChainLaws.{replicate_is}
use Rattle.workload_spec.specs.Load.{load_energy}
use Rattle.workload.proofs.FillLaws.{all_written}
use Rattle.workload.proofs.load.fill.Goals as goal

pub returns-clause-slices : goal.returns-clause-slices
unfolding of_bits neg
returns-clause-slices c =
    let energies : c.fill.new.self ≡ replicate (length c.args.energies.now) load_energy = c.fill.ensures.after (λ y e. e) in
    all_written _ _ _ c.in_ok-check_load.ensures.value c.fill_times.ensures (energies ∙ replicate_is load_energy (length c.args.energies.now)) c.fill_values.ensures
