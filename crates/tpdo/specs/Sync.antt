-- What a SYNC in Operational changes in the parts of a head: 01, chapter "The waiting line". Reviewers can
-- skip this file: proofs/Synchronised.antt proves that the head with these parts is what `promises` says.
use Rattle.std.specs.Prelude.{ℕ, Bool, ◌&&◌, cond, List}
use Rattle.waiting.specs.Line as line
use Rattle.waiting.specs.Calls.{joins_in, if_due}
use Rattle.position.specs.declared.Profile.{Profile}
use Rattle.position.specs.Position.{position}
use Rattle.entries.specs.declared.Pdo.{Pdo}
use Rattle.entries.specs.declared.Reading.{Reading}
use Rattle.entries.specs.declared.Settings.{Settings}
use Rattle.parts.specs.declared.Nmt.{Nmt}
use Rattle.parts.specs.declared.Clock.{Clock}
use Rattle.parts.specs.declared.Timers.{Timers}
use Rattle.parts.specs.declared.Fixed.{Fixed}
use Rattle.promises.specs.Timers.{timers_synced}
use Rattle.promises.specs.WaitingLine.{may_show}
use Rattle.tpdo.specs.declared.sync.Synced.{Synced}
use Rattle.tpdo.specs.Moments.{sync_count}

-- it is the PDO's moment, and it may join
abbrev pub joins_at : Nmt → Bool → Pdo → Clock → Bool
joins_at s good p k = (sync_count p k.syncs).ends && may_show s p.identifier good

-- the positions fixed: anew for a PDO whose test passes
abbrev pub fixed_anew : Bool → Bool → Profile → ℕ → Fixed → Fixed
fixed_anew first second p raw x = record { pdo1 = cond first (position p raw) x.pdo1; pdo2 = cond second (position p raw) x.pdo2 }

abbrev pub synced_by : Nmt → Settings → Timers → Reading → Fixed → List ℕ → Synced
synced_by s settings t r x l =
    let k = settings.communication in
    let first = joins_at s r.good k.pdo1 t.pdo1 in
    let second = joins_at s r.good k.pdo2 t.pdo2 in
    record {
      timers = timers_synced k t;
      fixed = fixed_anew first second settings.profile r.raw x;
      line = joins_in (joins_in l (if_due first line.tpdo1)) (if_due second line.tpdo2);
    }
