-- What the head of a request that was read has of the text, what each fault says of it, and what is written of a head.
use Rattle.std.specs.Prelude.{◌≡◌, ◌≢◌, ◌<◌, ◌≤◌, ◌⊎◌, ◌++◌, ℕ, List, codes, drop, filter, length, map, not, take, Option, Ok, Err, String, string_bytes, ⊤}
use Rattle.std.specs.Io.KnownBytes.{Appends}
use Rattle.std.specs.List.{flat_map}
use Rattle.std.specs.Set.{is_member}
use Rattle.std.specs.Str.{bytes_eq, str_to_ascii_lowercase}
use Rattle.std.specs.declared.alloc.Global.{Global}
use Rattle.httparse.specs.Grammar.{HasNoRequest, MayBecomeRequest, NeverHasRequest, ReadsRequest, RequestHead}
use Rattle.httparse.specs.Spans.{RequestExceeds, name_and_value}
use Rattle.httparse.specs.declared.Error.TheVariants.{TooManyHeaders}
use Rattle.micromap_examples.specs.Headers.{Header, Text, headers_of}
use Rattle.micromap_examples.specs.declared.headers.HeaderFault.{HeaderFault}
use Rattle.micromap_examples.specs.declared.headers.HeaderFault.TheVariants.{Memory}
use Rattle.micromap_examples.specs.declared.request.head.TheConstants.{MOST_BYTES, MOST_FIELDS, MOST_NAMES}
use Rattle.micromap_examples.specs.declared.request.head.Head.{Head}
use Rattle.micromap_examples.specs.declared.request.head.HeadFault.{HeadFault}
use Rattle.micromap_examples.specs.declared.request.head.HeadFault.TheVariants.{Incomplete, TooLong, Malformed, Headers}
use Rattle.micromap_examples.specs.declared.request.fault.RunFault.{RunFault}
use Rattle.micromap_examples.specs.declared.request.fault.RunFault.TheVariants as run

-- what may be a head: not more than its most bytes
abbrev pub front : List ℕ → List ℕ
front text = take MOST_BYTES text

-- the head h of a request stands at the front of the text
abbrev pub BeginsWith : List ℕ → RequestHead → Type 0
BeginsWith text h = (rest : List ℕ) × ReadsRequest (front text) h rest

-- what was read is the head h: its method, its target, and the headers that its fields make
pub record IsHead (head : Head) (h : RequestHead) : Type 0 where
  pub method : head.method.now ≡ h.method
  pub target : head.target.now ≡ h.target
  pub headers : headers_of MOST_NAMES (map name_and_value h.fields) ≡ Ok head.headers

-- what was read is the head at the front of the text
abbrev pub HasHead : List ℕ → Head → Type 0
HasHead text head = (h : RequestHead) × BeginsWith text h × IsHead head h

-- a head that can be read stands at the front of the text
abbrev pub IsAccepted : List ℕ → Type 0
IsAccepted text = (head : Head) × HasHead text head

-- no head stands at the front of the text, and bytes that follow can complete one
abbrev pub IsUnfinished : List ℕ → Type 0
IsUnfinished text = HasNoRequest (front text) × MayBecomeRequest (front text)

-- the fields of a head make the fault, or memory was refused for one of them
abbrev pub FailsAt : RequestHead → HeaderFault → Type 0
FailsAt h fault = ((fault ≡ Memory) × (0 < length h.fields)) ⊎ (headers_of MOST_NAMES (map name_and_value h.fields) ≡ Err fault)

-- why no head was read
abbrev pub Explains : List ℕ → HeadFault → Type 0
Explains text Incomplete = IsUnfinished text × (length text ≤ MOST_BYTES)
Explains text TooLong = IsUnfinished text × (MOST_BYTES < length text)
Explains text (Malformed error) = (error ≢ TooManyHeaders → NeverHasRequest (front text)) × (error ≡ TooManyHeaders → RequestExceeds MOST_FIELDS (front text))
Explains text (Headers fault) = (h : RequestHead) × BeginsWith text h × FailsAt h fault

-- the names that texts spell, in small letters
abbrev pub names_of : List (String Global) → List Text
names_of texts = map (λ text. str_to_ascii_lowercase (string_bytes text)) texts

-- the names in a program's arguments: all but the first, which is its own
abbrev pub names_in : List (String Global) → List Text
names_in arguments = names_of (drop 1 arguments)

-- the headers but those of these names
abbrev pub without : List Text → List Header → List Header
without names headers = filter (λ header. not (is_member bytes_eq names header.0)) headers

-- a header as it is written
abbrev pub header_line : Header → Text
header_line header = header.0 ++ codes ": " ++ header.1 ++ codes "\n"

-- a head as it is written
abbrev pub head_text : Head → Text
head_text head = head.method.now ++ codes " " ++ head.target.now ++ codes "\n" ++ flat_map header_line head.headers

-- the head at the front of the text was written, without the headers of these names
abbrev pub WritesHead : List ℕ → List Text → (old new : Option (List ℕ)) → Type 0
WritesHead text names old new = (head : Head) × HasHead text head × Appends old new (head_text (record head { headers = without names head.headers }))

-- why the head at the front of a text that was read was not written without the headers of these names
abbrev pub EndsCopy : List ℕ → List Text → RunFault → Type 0
EndsCopy text names (run.Input error) = ⊥
EndsCopy text names (run.Head fault) = Explains text fault
EndsCopy text names run.Memory = IsAccepted text × (0 < length names)
EndsCopy text names (run.Output error) = IsAccepted text

-- the same where the text is read first
abbrev pub EndsRun : List ℕ → List Text → RunFault → Type 0
EndsRun text names (run.Input error) = ⊤
EndsRun text names (run.Head fault) = EndsCopy text names (run.Head fault)
EndsRun text names run.Memory = EndsCopy text names run.Memory
EndsRun text names (run.Output error) = EndsCopy text names (run.Output error)

-- the output is as it was before, but where it is itself at fault
abbrev pub SparesOutput : {W : Type 0} → (old new : W) → RunFault → Type 0
SparesOutput old new (run.Input error) = new ≡ old
SparesOutput old new (run.Head fault) = new ≡ old
SparesOutput old new run.Memory = new ≡ old
SparesOutput old new (run.Output error) = ⊤
