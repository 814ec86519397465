-- The exit status of each fault, and which faults come from where.
use Rattle.std.specs.Prelude.{ℕ, ◌≡◌, ◌⊎◌, ⊤, Result, Ok, Err}
use Rattle.bench_kit.specs.declared.fault.Fault.{Fault}
use Rattle.bench_kit.specs.declared.fault.Fault.TheVariants.{Usage, Clock, Write, OutOfMemory, Unmade, Answer}

abbrev pub code_of : Fault → ℕ
code_of Usage = 2
code_of Clock = 3
code_of Write = 4
code_of OutOfMemory = 5
code_of Unmade = 6
code_of Answer = 7

-- the exit status of a program that ends so
abbrev pub status_of : Result ⊤ Fault → ℕ
status_of (Ok _) = 0
status_of (Err fault) = code_of fault

-- a fault of the words
abbrev pub IsWordFault : Fault → Type 0
IsWordFault fault = (fault ≡ Usage) ⊎ (fault ≡ OutOfMemory)

-- a fault of a measured run
abbrev pub IsRunFault : Fault → Type 0
IsRunFault fault = (fault ≡ Clock) ⊎ (fault ≡ OutOfMemory)

-- a fault of a print
abbrev pub IsPrintFault : Fault → Type 0
IsPrintFault fault = (fault ≡ Write) ⊎ (fault ≡ OutOfMemory)
