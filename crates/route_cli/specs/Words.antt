-- What the words after the program's name ask of it.
use Rattle.std.specs.Prelude.{ℕ, List, Option, Some, None}
use Rattle.command_line.specs.Words.{request_of}
use Rattle.command_line.specs.declared.request.Mode.{Mode}
use Rattle.command_line.specs.declared.request.Mode.TheVariants as mode
use Rattle.command_line.specs.declared.request.Request.{Request}
use Rattle.route_cli.specs.declared.job.Job.TheVariants.{Replay, Check, Show, Gen}
use Rattle.route_cli.specs.declared.job.Task.{Task}
use Rattle.route_cli.specs.declared.job.Task.TheVariants.{NotTaken, Does, ReplaysBy}

-- a replay is by so many workers, where these are given
abbrev pub replay_by : Option ℕ → Task
replay_by None = Does Replay
replay_by (Some workers) = ReplaysBy workers

-- what a request of a mode asks
abbrev pub task_in : Mode → Request → Task
task_in mode.Replay request = replay_by request.workers
task_in mode.Check request = Does Check
task_in mode.Show request = Does Show
task_in mode.Gen request = Does (Gen request.seed request.count)

abbrev pub task_by : Option Request → Task
task_by None = NotTaken
task_by (Some request) = task_in request.mode request

-- what the words ask
abbrev pub task_of : List (List ℕ) → Task
task_of words = task_by (request_of words)
