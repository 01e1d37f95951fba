-- What this crate's struct stands for in the definitions.
use Rattle.definition.specs.Papers as P
use Rattle.fragments.specs.declared.Fragment.{Fragment}

-- the fragment that the struct stands for
abbrev pub fragment_of : Fragment → P.Fragment
fragment_of f = record { bytes = f.bytes.now; main = f.main; alt = f.alt }
