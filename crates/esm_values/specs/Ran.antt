-- How a body that doesn't await ended: at its end, or by a throw.

pub data Ran (V : Type 0) : Type 0 where
  Normal : Ran V
  Thrown : (v : V) → Ran V
