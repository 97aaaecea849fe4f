-- Operations that stand in place of others and are told as those were.
use Rattle.std.specs.Prelude.{ℕ, List}
use Rattle.esm_rows.specs.Rows.{Operation, Row}
use Rattle.esm_rows.specs.Making.{IsTold, AreTold}
use Rattle.esm_rows.specs.declared.op.Op.{Op}

-- over these tables
module _ (owns texts : List (List ℕ)) where
  abbrev pub IsStill : Op → Op → Type 0
  IsStill q r = (p : Operation) → IsTold owns texts q p → IsTold owns texts r p

  -- one after another
  abbrev pub AreStill : List Op → List Op → Type 0
  AreStill qs rs = (c : Row) → AreTold owns texts qs c → AreTold owns texts rs c
