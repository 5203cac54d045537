-- The headers that the fields of a request make: names in small letters with their values, as bytes.
use Rattle.std.specs.Prelude.{ℕ, List, [], ◌∷◌, ◌++◌, codes, if◌then◌else◌, Option, Some, None, is_some, map, Result, Ok, Err}
use Rattle.std.specs.Fmt.{decimal}
use Rattle.std.specs.Option.{option_map_or, option_or}
use Rattle.std.specs.Str.{str_to_ascii_lowercase, bytes_eq}
use Rattle.micromap.specs.Build.{merge_pair, merged}
use Rattle.micromap.specs.Pairs.{at, fits, has}
use Rattle.micromap_examples.specs.declared.headers.HeaderFault.{HeaderFault}
use Rattle.micromap_examples.specs.declared.headers.HeaderFault.TheVariants.{TooMany, TwoHosts, TwoLengths, NoHost, Memory}

abbrev pub Text : Type 0
Text = List ℕ

-- a name with its value
abbrev pub Header : Type 0
Header = Text × Text

-- a name, in small letters, with its field
abbrev pub Field : Type 0
Field = Text × Header

abbrev pub field_of : Header → Field
field_of h = (str_to_ascii_lowercase h.0, (str_to_ascii_lowercase h.0, h.1))

-- the fault of a second value of a name, if it has one value only
abbrev pub other_value : Text → Option HeaderFault
other_value name = if bytes_eq name (codes "host") then Some TwoHosts else (if bytes_eq name (codes "content-length") then Some TwoLengths else None)

-- the value of a name once a field of it came: behind the one that is there, unless the name has one value only
abbrev pub joined : Option Text → Header → Text
joined None h = h.1
joined (Some stored) h = if is_some (other_value h.0) then h.1 else stored ++ codes ", " ++ h.1

-- the fault of a field whose name has this value, if it has one
abbrev pub conflict : Option Text → Header → Option HeaderFault
conflict None h = None
conflict (Some stored) h = if bytes_eq stored h.1 then None else other_value h.0

-- why a field can't be added to the headers, if it can't
abbrev pub refusal : ℕ → List Header → Field → Option HeaderFault
refusal N headers field = if fits bytes_eq N headers field.0 then conflict (at bytes_eq headers field.0) field.1 else Some (TooMany N)

-- the first fault of fields that are added to headers, if there is one
abbrev pub first_fault : ℕ → List Header → List Field → Option HeaderFault
first_fault N headers [] = if has bytes_eq headers (codes "host") then None else Some NoHost
first_fault N headers (field ∷ fields) = option_or (refusal N headers field) (first_fault N (merge_pair bytes_eq joined headers field) fields)

-- what becomes of headers, of at most N names, to which fields are added: all that they make, or the first fault
abbrev pub with_fields : ℕ → List Header → List Field → Result (List Header) HeaderFault
with_fields N headers fields = option_map_or Err (first_fault N headers fields) (Ok (merged bytes_eq joined headers fields))

-- the headers that the fields of a request make, or the first fault
abbrev pub headers_of : ℕ → List Header → Result (List Header) HeaderFault
headers_of N fields = with_fields N [] (map field_of fields)

-- what a fault prints
abbrev pub message : HeaderFault → Text
message (TooMany most) = codes "there are more than " ++ decimal most ++ codes " names"
message TwoHosts = codes "two values of host differ"
message TwoLengths = codes "two values of content-length differ"
message NoHost = codes "there is no host"
message Memory = codes "a request for memory was refused"
