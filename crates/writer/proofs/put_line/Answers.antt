-- `writer::put_line` meets its contract: the head, and the body at the start of the rest after it. Assumes nothing.
use mathlib.Core.Path.{◌≡◌, refl, ap, ◌∙◌}
use mathlib.Core.List.{List, append_assoc}
use Prim.Native.Nat.{ℕ, ◌+◌, ◌≤◌}
use native.Mathlib.Omega.{arith}
use lib.ListN.{length}
use Rattle.text.specs.Text.{spliced}
use Rattle.rules.specs.declared.Rule.{Rule}
use Rattle.fields.specs.Head.{head_length}
use Rattle.fields.specs.declared.heads.MessageType.{MessageType}
use Rattle.messages.specs.Body.{type_in}
use Rattle.messages.specs.Allowed.{body_text}
use Rattle.messages.specs.declared.Reading.{Reading}
use Rattle.line.specs.Line.{line_by}
use Rattle.line.proofs.Steps.{Allows, allowed_allows}
use Rattle.writer.specs.Asks.{head_text, HeadAsks, BodyAsks, LineAsks}
use Rattle.writer.proofs.LineSizes.{line_length}
use Rattle.writer.proofs.Puts.{rest_from, given, Stand, same_room, rest_long, part_next}
use Rattle.writer.proofs.HeadPuts.{head_stands}
use Rattle.writer.proofs.put_line.Goals as goal

module _ {ρ : Rule} {x : Reading} {r out : List ℕ} (a : LineAsks ρ x r out) where
  abbrev body : List ℕ
  body = body_text ρ x.body r x.trailing

  allows : Allows ρ x r
  allows = allowed_allows ρ x r a.good

  room : head_length ρ + length body ≤ length out
  room = omega (arith, a.room, line_length ρ x r allows.sequence_held allows.stamp_held allows.facility_held)

  head_asks : HeadAsks ρ x.sequence x.stamp x.facility out
  head_asks = record { sequence = allows.sequence_held; stamp = allows.stamp_held; facility = allows.facility_held; room = omega (arith, room) }

  -- the head stands, and the body goes in after it
  module _ {t : MessageType} (is : t ≡ type_in x.body) {o : List ℕ} (w : o ≡ spliced out 0 (head_text ρ x.sequence x.stamp x.facility t)) {at : ℕ} (after : at ≡ head_length ρ) where
    head : Stand out (head_text ρ x.sequence x.stamp x.facility (type_in x.body)) at o
    head = rw after (head_stands head_asks (type_in x.body) (rw is at w))

    inside : at ≤ length o
    inside = omega (arith, same_room head, head.fits)

    fits : at + length body ≤ length out
    fits = rw after room

    asks : BodyAsks ρ x.body r x.trailing (rest_from at o)
    asks = record { good = allows.body; room = rest_long head body refl fits }

    whole : {ys : List ℕ} → ys ≡ spliced (rest_from at o) 0 body → given at o ys ≡ spliced out 0 (line_by ρ x r)
    unfolding line_by
    whole y = (part_next head body refl fits y).bytes ∙ ap (spliced out 0) (simp append_assoc)

pub put_head-requires : goal.put_head-requires
put_head-requires c =
    let asked : LineAsks c.args.rule c.args.x c.args.free.now c.args.out.now = c.requires in
    head_asks asked

pub slice_bounds-put_body-count : goal.slice_bounds-put_body-count
slice_bounds-put_body-count c =
    let asked : LineAsks c.args.rule c.args.x c.args.free.now c.args.out.now = c.requires in
    inside asked c.type_in.ensures c.put_head.ensures c.body_at-at.ensures

pub slice_bounds-put_body-start : goal.slice_bounds-put_body-start
slice_bounds-put_body-start c =
    let asked : LineAsks c.args.rule c.args.x c.args.free.now c.args.out.now = c.requires in
    inside asked c.type_in.ensures c.put_head.ensures c.body_at-at.ensures

pub put_body-requires : goal.put_body-requires
put_body-requires c =
    let asked : LineAsks c.args.rule c.args.x c.args.free.now c.args.out.now = c.requires in
    asks asked c.type_in.ensures c.put_head.ensures c.body_at-at.ensures

pub returns : goal.returns
returns c =
    let asked : LineAsks c.args.rule c.args.x c.args.free.now c.args.out.now = c.requires in
    whole asked c.type_in.ensures c.put_head.ensures c.body_at-at.ensures c.put_body.ensures
