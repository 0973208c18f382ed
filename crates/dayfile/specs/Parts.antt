-- What a trailer has beside the start of the index. Assumes nothing.
use Rattle.std.specs.Prelude.{ℕ}

-- how many bytes its number of lines takes, its version, and how many lines there may be
pub record Parts : Type 0 where
  pub wide : ℕ
  pub version : ℕ
  pub most : ℕ
