-- How long a plan's line may be (document 01, answer 11). Assumes nothing.
use Rattle.std.specs.Prelude.{ℕ, ◌-◌, Bool, ◌&&◌, ltb}
use Rattle.shapes.specs.Picture.{fits}
use Rattle.rules.specs.Frame.{longest_plan}
use Rattle.rules.specs.declared.Rule.{Rule}
use Rattle.fields.specs.Head.{type_at}
use Rattle.fields.specs.MessageType.{type_text}
use Rattle.fields.specs.declared.heads.MessageType.{MessageType}
use Rattle.fields.specs.declared.heads.MessageType.TheVariants.{Fz}

-- "FZ over 439 bytes, counted from its type"; n is the line's length
abbrev pub is_long_plan : Rule → MessageType → ℕ → Bool
is_long_plan ρ t n = fits (type_text Fz) (type_text t) && ltb longest_plan (n - type_at ρ)
