-- What a checker answers of a certificate.
use Rattle.std.specs.Prelude.{◌≡◌, ℕ, IsTrue, Result, Ok, Err}
use Rattle.verdict_meaning.specs.declared.cert.CertCause.{CertCause}
use Rattle.verdict_meaning.specs.declared.cert.CertEnd.{CertEnd}
use Rattle.verdict_meaning.specs.declared.cert.CertEnd.TheVariants as certificate
use Rattle.verdict_meaning.specs.Certificates.{NodeFault, is_end}
use Rattle.verdict_meaning.specs.Verdicts.{written_count}

-- this is the first fault, by its place as a program writes it
abbrev pub IsFirstFault : ℕ → CertCause → Result ℕ NodeFault → Type 0
IsFirstFault place cause (Ok nodes) = ⊥
IsFirstFault place cause (Err fault) = (place ≡ written_count fault.place) × (cause ≡ fault.cause)

-- this is the number of nodes, as a program writes it
abbrev pub IsNodeCount : ℕ → Result ℕ NodeFault → Type 0
IsNodeCount count (Ok nodes) = count ≡ written_count nodes
IsNodeCount count (Err fault) = ⊥

-- what is told of a certificate: the number of nodes where it is accepted, or the first fault;
-- nothing where memory is wanting
abbrev pub Tells : Result ℕ CertEnd → Result ℕ NodeFault → Type 0
Tells (Ok count) judged = IsNodeCount count judged
Tells (Err (certificate.Fault place cause)) judged = IsFirstFault place cause judged
Tells (Err certificate.NoMemory) judged = Unit {0}

-- what a check answers: Ok exactly where the certificate is accepted, else the first fault
abbrev pub IsAnswer : Result (Unit {0}) CertEnd → Result ℕ NodeFault → Type 0
IsAnswer (Ok done) judged = IsTrue (is_end judged)
IsAnswer (Err (certificate.Fault place cause)) judged = IsFirstFault place cause judged
IsAnswer (Err certificate.NoMemory) judged = Unit {0}
