-- ECMA-262, Completion Records: a normal completion with a value, or a throw completion.

pub data Completion (V : Type 0) : Type 0 where
  Normal : (v : V) → Completion V
  Throw : (v : V) → Completion V
