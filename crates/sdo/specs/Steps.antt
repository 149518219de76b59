-- The service in the steps that the code takes: the request is taken apart, the entry
-- is looked up, and one abort code decides, 0 for none. 01, chapter "Service requests".
use Rattle.std.specs.Prelude.{ℕ, eqb, ltb, Bool, cond, List, Result, Ok, Ok as At, Err, Some as Asked, None as UnknownCommand}
use Rattle.entries.specs.declared.Device.{Device}
use Rattle.entries.specs.declared.table.Row.{Row}
use Rattle.entries.specs.Table.{Found, width, is_rw, altered, lookup}
use Rattle.entries.specs.declared.table.NotFound.TheVariants.{NoSubIndex, NoIndex}
use Rattle.dictionary.specs.declared.abort.Abort.{Abort}
use Rattle.dictionary.specs.AbortCodes.{code_of}
use Rattle.dictionary.specs.Reads.{shown}
use Rattle.dictionary.specs.Accepted.{abort_code}
use Rattle.sdo.specs.AbortCodes.{request_code, found_code, read_only, too_long, too_short}
use Rattle.sdo.specs.declared.request.Access.{Access}
use Rattle.sdo.specs.declared.request.Access.TheVariants.{Read, Write}
use Rattle.sdo.specs.Request.{Request}
use Rattle.sdo.specs.declared.reply.Served.{Served}
use Rattle.sdo.specs.Reply.{shown_reply, confirmed, aborted}
use Rattle.sdo.specs.Service.{cut_to}

-- the reply to an answer: an abort with its code, or what is answered
abbrev pub reply_in : List ℕ → Result Served Abort → Served
reply_in f (Ok served) = served
reply_in f (Err reason) = aborted f (code_of reason)

-- a length of 0 is the entry's
abbrev pub length_code : ℕ → ℕ → ℕ
length_code n width = cond (eqb n 0) 0 (cond (ltb width n) too_long (cond (ltb n width) too_short 0))

unfoldable pub write_code : Device → ℕ → ℕ → Row → ℕ
write_code d n v r =
    cond (is_rw r) (cond (eqb (length_code n (width r)) 0) (abort_code d r v) (length_code n (width r))) read_only

abbrev pub row_reply : Device → List ℕ → ℕ → ℕ → Row → Served
row_reply d f n content r =
    let v = cut_to (width r) content in
    cond (eqb (write_code d n v r) 0) (confirmed f (altered r) v) (aborted f (write_code d n v r))

abbrev pub entry_reply : Device → Bool → List ℕ → Row → Access → Served
entry_reply d o f r Read = shown_reply f (width r) (shown d o r)
entry_reply d o f r (Write n content) = row_reply d f n content r

abbrev pub found_reply : Device → Bool → List ℕ → Access → Found → Served
found_reply d o f a (Err NoIndex) = aborted f (found_code (Err NoIndex))
found_reply d o f a (Err NoSubIndex) = aborted f (found_code (Err NoSubIndex))
found_reply d o f a (At r) = entry_reply d o f r a

abbrev pub reply_to : Device → Bool → List ℕ → Request → Served
reply_to d o f (Asked ask) = found_reply d o f ask.access (lookup ask.index ask.sub)
reply_to d o f UnknownCommand = aborted f (request_code UnknownCommand)
