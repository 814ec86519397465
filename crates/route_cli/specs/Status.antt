-- The number and the text of a status.
use Rattle.std.specs.Prelude.{ℕ, List, [], ◌++◌, codes, decimal}
use Rattle.route_lang.specs.Fault.{reason_text}
use Rattle.route_cli.specs.declared.status.Status.{Status}
use Rattle.route_cli.specs.declared.status.Status.TheVariants as status

abbrev pub code_of : Status → ℕ
code_of status.Ok = 0
code_of (status.ScriptRefused line reason) = 1
code_of status.Usage = 2
code_of status.ReadFault = 3
code_of status.WriteFault = 4
code_of status.OutOfMemory = 5

-- the line that tells of a fault, and nothing where there is none
abbrev pub fault_line : Status → List ℕ
fault_line status.Ok = []
fault_line (status.ScriptRefused line reason) =
    codes "fibrun: line " ++ (decimal line ++ (codes ": " ++ (reason_text reason ++ codes "\n")))
fault_line status.Usage = codes "usage: fibrun replay|check|show|gen [--workers N] [--seed N] [--count N]\n"
fault_line status.ReadFault = codes "fibrun: read fault\n"
fault_line status.WriteFault = codes "fibrun: write fault\n"
fault_line status.OutOfMemory = codes "fibrun: out of memory\n"
