-- What a contract sees of a `Few`.
use Rattle.std.specs.Prelude.{List, refl}
use Rattle.std.specs.Coded.{Coded, code_by, coded×, coded_list}

-- The items, in order, and what lies in the places behind them, of which no clause says anything.
pub record Few (T : Type 0) : Type 0 where
  pub items : List T
  pub spare : List T

-- Told apart by both lists.
abbrev pub few_code : {T : Type 0} → Coded T → Coded (Few T)
few_code {T} code =
    code_by (List T × List T) (coded× (coded_list code) (coded_list code)) (λ v. (v.items, v.spare)) (λ p. record { items = p.0; spare = p.1 }) (λ _. refl)
