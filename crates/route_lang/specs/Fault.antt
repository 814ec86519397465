-- The texts of the reasons for which a line is refused.
use Rattle.std.specs.Prelude.{ℕ, List, codes}
use Rattle.route_lang.specs.declared.fault.Reason.{Reason}
use Rattle.route_lang.specs.declared.fault.Reason.TheVariants as reason

abbrev pub reason_text : Reason → List ℕ
reason_text reason.TooLarge = codes "input too large"
reason_text reason.TooManyLines = codes "too many lines"
reason_text reason.LineTooLong = codes "line too long"
reason_text reason.BadByte = codes "bad byte"
reason_text reason.UnknownCommand = codes "unknown command"
reason_text reason.UnknownOption = codes "unknown option"
reason_text reason.Repeated = codes "repeated option"
reason_text reason.MissingWord = codes "missing word"
reason_text reason.BadNumber = codes "bad number"
reason_text reason.ExtraWord = codes "extra word"
reason_text reason.BadAddress = codes "bad address"
reason_text reason.BadLength = codes "bad length"
reason_text reason.NoTarget = codes "no target"
reason_text reason.NoModule = codes "no such module"
reason_text reason.NotFirst = codes "profile not first"
