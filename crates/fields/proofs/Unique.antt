-- Two answers that the promise of a public function of `fields` allows are equal: of each, `Post` is its `ensures` as it stands in the source,
-- r and r' are two results, s and s' two states at exit. Assumes nothing.
use mathlib.Core.Path.{◌≡◌, sym, ◌∙◌}
use Rattle.fields.proofs.aircraft.Aircraft.holds.Reads as aircraft-holds
use Rattle.fields.proofs.aircraft.Aircraft.put.Reads as aircraft-put
use Rattle.fields.proofs.aircraft.Aircraft.read.Reads as aircraft-read
use Rattle.fields.proofs.flight.KeyWorded.holds.Reads as key-holds
use Rattle.fields.proofs.flight.KeyWorded.read.Reads as key-read
use Rattle.fields.proofs.frame.body_at.Reads as body_at
use Rattle.fields.proofs.frame.SequenceWorded.holds.Reads as sequence-holds
use Rattle.fields.proofs.frame.SequenceWorded.put.Reads as sequence-put
use Rattle.fields.proofs.frame.SequenceWorded.read.Reads as sequence-read
use Rattle.fields.proofs.frame.StampWorded.holds.Reads as stamp-holds
use Rattle.fields.proofs.frame.StampWorded.put.Reads as stamp-put
use Rattle.fields.proofs.frame.StampWorded.read.Reads as stamp-read
use Rattle.fields.proofs.heads.Facility.holds.Reads as facility-holds
use Rattle.fields.proofs.heads.Facility.put.Reads as facility-put
use Rattle.fields.proofs.heads.Facility.read.Reads as facility-read
use Rattle.fields.proofs.heads.MessageType.put.Reads as message-type-put
use Rattle.fields.proofs.heads.MessageType.read.Reads as message-type-read
use Rattle.fields.proofs.idents.Ident.holds.Reads as ident-holds
use Rattle.fields.proofs.idents.Ident.put.Reads as ident-put
use Rattle.fields.proofs.idents.Ident.read.Reads as ident-read
use Rattle.fields.proofs.idents.Ident.read_tz.Reads as ident-read-tz
use Rattle.fields.proofs.plan.PointWorded.holds.Reads as point-holds
use Rattle.fields.proofs.plan.TimeWorded.read.Reads as time-read
use Rattle.fields.proofs.track.ArrivalClockWorded.holds.Reads as arrival-clock-holds
use Rattle.fields.proofs.track.GroundSpeedWorded.holds.Reads as ground-speed-holds
use Rattle.fields.proofs.track.PositionWorded.holds.Reads as position-holds
use Rattle.fields.proofs.track.TrackLevelWorded.holds.Reads as track-level-holds
use Rattle.fields.proofs.words.Worded.holds.Reads as worded-holds
use Rattle.fields.proofs.words.Worded.put.Reads as worded-put
use Rattle.fields.proofs.words.Worded.read.Reads as worded-read
use Rattle.fields.proofs.words.holds.Reads as holds
use Rattle.fields.proofs.words.put.Reads as put
use Rattle.fields.proofs.words.read.Reads as read

pub key_read_one : (κs : _) (a : _) (r r' : _) (s s' : _) → key-read.Post κs a r s → key-read.Post κs a r' s' → r ≡ r'
key_read_one κs a r r' s s' p q = p ∙ sym q

pub key_holds_one : (κs : _) (a : _) (r r' : _) (s s' : _) → key-holds.Post κs a r s → key-holds.Post κs a r' s' → r ≡ r'
key_holds_one κs a r r' s s' p q = p ∙ sym q

pub body_at_one : (κs : _) (a : _) (r r' : _) (s s' : _) → body_at.Post κs a r s → body_at.Post κs a r' s' → r ≡ r'
body_at_one κs a r r' s s' p q = p ∙ sym q

pub sequence_read_one : (κs : _) (a : _) (r r' : _) (s s' : _) → sequence-read.Post κs a r s → sequence-read.Post κs a r' s' → r ≡ r'
sequence_read_one κs a r r' s s' p q = p ∙ sym q

pub sequence_holds_one : (κs : _) (a : _) (r r' : _) (s s' : _) → sequence-holds.Post κs a r s → sequence-holds.Post κs a r' s' → r ≡ r'
sequence_holds_one κs a r r' s s' p q = p ∙ sym q

pub sequence_put_one : (κs : _) (a : _) (r r' : _) (s s' : _) → sequence-put.Post κs a r s → sequence-put.Post κs a r' s' → (r ≡ r') × (s.1.0.now ≡ s'.1.0.now)
sequence_put_one κs a r r' s s' p q = (p.0 ∙ sym q.0, p.1 ∙ sym q.1)

pub stamp_read_one : (κs : _) (a : _) (r r' : _) (s s' : _) → stamp-read.Post κs a r s → stamp-read.Post κs a r' s' → r ≡ r'
stamp_read_one κs a r r' s s' p q = p ∙ sym q

pub stamp_holds_one : (κs : _) (a : _) (r r' : _) (s s' : _) → stamp-holds.Post κs a r s → stamp-holds.Post κs a r' s' → r ≡ r'
stamp_holds_one κs a r r' s s' p q = p ∙ sym q

pub stamp_put_one : (κs : _) (a : _) (r r' : _) (s s' : _) → stamp-put.Post κs a r s → stamp-put.Post κs a r' s' → (r ≡ r') × (s.1.0.now ≡ s'.1.0.now)
stamp_put_one κs a r r' s s' p q = (p.0 ∙ sym q.0, p.1 ∙ sym q.1)

pub point_holds_one : (κs : _) (a : _) (r r' : _) (s s' : _) → point-holds.Post κs a r s → point-holds.Post κs a r' s' → r ≡ r'
point_holds_one κs a r r' s s' p q = p ∙ sym q

pub time_read_one : (κs : _) (a : _) (r r' : _) (s s' : _) → time-read.Post κs a r s → time-read.Post κs a r' s' → r ≡ r'
time_read_one κs a r r' s s' p q = p ∙ sym q

pub ground_speed_holds_one : (κs : _) (a : _) (r r' : _) (s s' : _) → ground-speed-holds.Post κs a r s → ground-speed-holds.Post κs a r' s' → r ≡ r'
ground_speed_holds_one κs a r r' s s' p q = p ∙ sym q

pub track_level_holds_one : (κs : _) (a : _) (r r' : _) (s s' : _) → track-level-holds.Post κs a r s → track-level-holds.Post κs a r' s' → r ≡ r'
track_level_holds_one κs a r r' s s' p q = p ∙ sym q

pub position_holds_one : (κs : _) (a : _) (r r' : _) (s s' : _) → position-holds.Post κs a r s → position-holds.Post κs a r' s' → r ≡ r'
position_holds_one κs a r r' s s' p q = p ∙ sym q

pub arrival_clock_holds_one : (κs : _) (a : _) (r r' : _) (s s' : _) → arrival-clock-holds.Post κs a r s → arrival-clock-holds.Post κs a r' s' → r ≡ r'
arrival_clock_holds_one κs a r r' s s' p q = p ∙ sym q

-- ---- any type of one word: t to y are the type and what it says of itself

pub worded_read_one : (t l h w d x y : _) (κs : _) (a : _) (r r' : _) (s s' : _) → worded-read.Post t l h w d x y κs a r s → worded-read.Post t l h w d x y κs a r' s' → r ≡ r'
worded_read_one t l h w d x y κs a r r' s s' p q = p ∙ sym q

pub worded_holds_one : (t l h w d x y : _) (κs : _) (a : _) (r r' : _) (s s' : _) → worded-holds.Post t l h w d x y κs a r s → worded-holds.Post t l h w d x y κs a r' s' → r ≡ r'
worded_holds_one t l h w d x y κs a r r' s s' p q = p ∙ sym q

pub worded_put_one : (t l h w d x y : _) (κs : _) (a : _) (r r' : _) (s s' : _) → worded-put.Post t l h w d x y κs a r s → worded-put.Post t l h w d x y κs a r' s' → (r ≡ r') × (s.1.0.now ≡ s'.1.0.now)
worded_put_one t l h w d x y κs a r r' s s' p q = (p.0 ∙ sym q.0, p.1 ∙ sym q.1)

-- ---- aircraft

pub aircraft_read_one : (κs : _) (a : _) (r r' : _) (s s' : _) → aircraft-read.Post κs a r s → aircraft-read.Post κs a r' s' → r ≡ r'
aircraft_read_one κs a r r' s s' p q = p.0 ∙ sym q.0

pub aircraft_holds_one : (κs : _) (a : _) (r r' : _) (s s' : _) → aircraft-holds.Post κs a r s → aircraft-holds.Post κs a r' s' → r ≡ r'
aircraft_holds_one κs a r r' s s' p q = p ∙ sym q

pub aircraft_put_one : (κs : _) (a : _) (r r' : _) (s s' : _) → aircraft-put.Post κs a r s → aircraft-put.Post κs a r' s' → (r ≡ r') × (s.1.0.now ≡ s'.1.0.now)
aircraft_put_one κs a r r' s s' p q = (p.0 ∙ sym q.0, p.1 ∙ sym q.1)

-- ---- heads

pub facility_read_one : (κs : _) (a : _) (r r' : _) (s s' : _) → facility-read.Post κs a r s → facility-read.Post κs a r' s' → r ≡ r'
facility_read_one κs a r r' s s' p q = p ∙ sym q

pub facility_holds_one : (κs : _) (a : _) (r r' : _) (s s' : _) → facility-holds.Post κs a r s → facility-holds.Post κs a r' s' → r ≡ r'
facility_holds_one κs a r r' s s' p q = p ∙ sym q

pub facility_put_one : (κs : _) (a : _) (r r' : _) (s s' : _) → facility-put.Post κs a r s → facility-put.Post κs a r' s' → (r ≡ r') × (s.1.0.now ≡ s'.1.0.now)
facility_put_one κs a r r' s s' p q = (p.0 ∙ sym q.0, p.1 ∙ sym q.1)

pub message_type_read_one : (κs : _) (a : _) (r r' : _) (s s' : _) → message-type-read.Post κs a r s → message-type-read.Post κs a r' s' → r ≡ r'
message_type_read_one κs a r r' s s' p q = p ∙ sym q

pub message_type_put_one : (κs : _) (a : _) (r r' : _) (s s' : _) → message-type-put.Post κs a r s → message-type-put.Post κs a r' s' → (r ≡ r') × (s.1.0.now ≡ s'.1.0.now)
message_type_put_one κs a r r' s s' p q = (p.0 ∙ sym q.0, p.1 ∙ sym q.1)

-- ---- idents

pub ident_read_one : (κs : _) (a : _) (r r' : _) (s s' : _) → ident-read.Post κs a r s → ident-read.Post κs a r' s' → r ≡ r'
ident_read_one κs a r r' s s' p q = p ∙ sym q

pub ident_read_tz_one : (κs : _) (a : _) (r r' : _) (s s' : _) → ident-read-tz.Post κs a r s → ident-read-tz.Post κs a r' s' → r ≡ r'
ident_read_tz_one κs a r r' s s' p q = p ∙ sym q

pub ident_holds_one : (κs : _) (a : _) (r r' : _) (s s' : _) → ident-holds.Post κs a r s → ident-holds.Post κs a r' s' → r ≡ r'
ident_holds_one κs a r r' s s' p q = p ∙ sym q

pub ident_put_one : (κs : _) (a : _) (r r' : _) (s s' : _) → ident-put.Post κs a r s → ident-put.Post κs a r' s' → (r ≡ r') × (s.1.0.now ≡ s'.1.0.now)
ident_put_one κs a r r' s s' p q = (p.0 ∙ sym q.0, p.1 ∙ sym q.1)

-- ---- words

pub read_one : (κs : _) (a : _) (r r' : _) (s s' : _) → read.Post κs a r s → read.Post κs a r' s' → r ≡ r'
read_one κs a r r' s s' p q = p ∙ sym q

pub holds_one : (κs : _) (a : _) (r r' : _) (s s' : _) → holds.Post κs a r s → holds.Post κs a r' s' → r ≡ r'
holds_one κs a r r' s s' p q = p ∙ sym q

pub put_one : (κs : _) (a : _) (r r' : _) (s s' : _) → put.Post κs a r s → put.Post κs a r' s' → (r ≡ r') × (s.1.1.0.now ≡ s'.1.1.0.now)
put_one κs a r r' s s' p q = (p.0 ∙ sym q.0, p.1 ∙ sym q.1)
