-- How many files the commands open.
use Rattle.std.proofs.Common.{ℕ, ◌≤◌, List, Option, None, Some, IfSome, arith}
use Rattle.byte_edge.specs.Lines.{LineEvent}
use Rattle.streamed_lines.specs.Streams.{Printed, stream}

pub stream_opens : (print : List LineEvent → Printed) (held : Option (List ℕ))
    → IfSome (stream print held) (λ o. 1 ≤ o.opened)
stream_opens print None = tt
stream_opens print (Some trace) = omega arith
