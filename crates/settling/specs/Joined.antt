-- Which kinds join the line: those that are due and may join, from the parts of a head that decide it. 01, chapter "The waiting line".
use Rattle.std.specs.Prelude.{ℕ, Bool, ◌&&◌, List}
use Rattle.waiting.specs.Calls.{joins_in, flagged}
use Rattle.entries.specs.declared.Communication.{Communication}
use Rattle.parts.specs.declared.Nmt.{Nmt}
use Rattle.promises.specs.States.{pdo, live}
use Rattle.promises.specs.WaitingLine.{Kind, emergency, sdo_reply, heartbeat, tpdo, number, those, may_alert, may_beat, may_show}

-- `may_join`, as a function of the parts that it depends on
abbrev pub may_join_at : Nmt → Communication → ℕ → Bool → Bool → Kind → Bool
may_join_at s k inhibit good announced emergency = may_alert s k.emergency inhibit good announced
may_join_at s k inhibit good announced sdo_reply = live s
may_join_at s k inhibit good announced heartbeat = may_beat s k.heartbeat
may_join_at s k inhibit good announced (tpdo w) = may_show s (pdo k w).identifier good

abbrev pub joined_by : List ℕ → Nmt → Communication → ℕ → Bool → Bool → List Bool → List ℕ
joined_by l s k inhibit good announced due = joins_in l (those (λ x. flagged due (number x) && may_join_at s k inhibit good announced x))
