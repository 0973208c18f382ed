-- What a read leaves. Assumes nothing.
use Rattle.std.specs.Prelude.{ℕ, ◌+◌, ◌≤◌, ◌<◌, ◌^◌, ◌≡◌, true, false}
use Rattle.intake.specs.declared.input.Input.{Input}

-- a read into a block of `size` bytes has made j of i: j is live only if bytes came, at most as many as the block has
pub record Came (i : Input) (size : ℕ) (j : Input) : Type 0 where
  pub some : j.live ≡ true → (i.total < j.total) × (j.total < 2 ^ 64)
  pub none : j.live ≡ false → j.total ≡ i.total
  pub least : i.total ≤ j.total
  pub most : j.total ≤ i.total + size
  pub same : j.fd ≡ i.fd
  -- a read that failed is the last, and brought nothing
  pub ends : j.failed ≡ true → j.live ≡ false
  -- a block that could bring more bytes than any feed has is not read into: no more comes, and nothing failed
  pub unread : 2 ^ 64 ≤ i.total + size → (j.live ≡ false) × (j.failed ≡ false)
