-- `places::store::restore` meets its contract where nothing can be kept under the name. Assumes nothing.
use Rattle.std.proofs.Common.{rules}
use Rattle.places.proofs.StoreLaws.{refused}
use Rattle.places.proofs.store.restore.Goals as goal

pub returns-in_err-check_keep : goal.returns-in_err-check_keep
returns-in_err-check_keep c running =
    let k = refused running c.args.name c.args.store.now c.in_err-check_keep.ensures.value in search rules
