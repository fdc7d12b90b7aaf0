-- The table of refusals: the number and the name of each code, and which codes are limits.
use Rattle.std.specs.Prelude.{ℕ, Bool, true, false, List, codes, if◌then◌else◌}
use Rattle.rlc_base.specs.declared.code.Code.{Code}
use Rattle.rlc_base.specs.declared.code.Code.TheVariants as refused
use Rattle.rlc_base.specs.declared.faults.Refusal.{Refusal}
use Rattle.rlc_base.specs.declared.faults.Stop.{Stop}
use Rattle.rlc_base.specs.declared.faults.Stop.TheVariants as stops

abbrev pub number_of : Code → ℕ
number_of refused.BadByte = 10
number_of refused.OpenComment = 11
number_of refused.OpenText = 12
number_of refused.BadLiteral = 13
number_of refused.LeftOutWord = 14
number_of refused.Syntax = 20
number_of refused.DoubleClass = 30
number_of refused.UnknownType = 31
number_of refused.CyclicSupers = 32
number_of refused.DoubleMember = 33
number_of refused.BadSuper = 34
number_of refused.NoSuchName = 40
number_of refused.NoSuchMethod = 41
number_of refused.Ambiguous = 42
number_of refused.Mismatch = 43
number_of refused.UndeclaredException = 44
number_of refused.BadOverride = 45
number_of refused.NotAbstract = 46
number_of refused.BadAnno = 50
number_of refused.NoSuchMustCall = 51
number_of refused.BadAlias = 52
number_of refused.BadOwningOverride = 53
number_of refused.NoFinalizer = 54
number_of refused.OwningFieldShape = 55
number_of refused.BadReset = 56
number_of refused.SmallSet = 57
number_of refused.FileTooBig = 60
number_of refused.TooDeep = 61
number_of refused.TooManyClasses = 62
number_of refused.MethodTooLarge = 63
number_of refused.TooManyPlaces = 64
number_of refused.TooManyFacts = 65
number_of refused.TooManyFiles = 66
number_of refused.TooMuchText = 67
number_of refused.TooManyNames = 68
number_of refused.TooManyFaults = 69
number_of refused.BadToml = 70
number_of refused.BadKey = 71
number_of refused.BadVersion = 72
number_of refused.BadChoices = 73
number_of refused.NoMain = 74
number_of refused.BadCert = 80
number_of refused.CertOpen = 81
number_of refused.CertTooBig = 82
number_of refused.BadScript = 83
number_of refused.TooManyEdits = 84

abbrev pub name_of : Code → List ℕ
name_of refused.BadByte = codes "BadByte"
name_of refused.OpenComment = codes "OpenComment"
name_of refused.OpenText = codes "OpenText"
name_of refused.BadLiteral = codes "BadLiteral"
name_of refused.LeftOutWord = codes "LeftOutWord"
name_of refused.Syntax = codes "Syntax"
name_of refused.DoubleClass = codes "DoubleClass"
name_of refused.UnknownType = codes "UnknownType"
name_of refused.CyclicSupers = codes "CyclicSupers"
name_of refused.DoubleMember = codes "DoubleMember"
name_of refused.BadSuper = codes "BadSuper"
name_of refused.NoSuchName = codes "NoSuchName"
name_of refused.NoSuchMethod = codes "NoSuchMethod"
name_of refused.Ambiguous = codes "Ambiguous"
name_of refused.Mismatch = codes "Mismatch"
name_of refused.UndeclaredException = codes "UndeclaredException"
name_of refused.BadOverride = codes "BadOverride"
name_of refused.NotAbstract = codes "NotAbstract"
name_of refused.BadAnno = codes "BadAnno"
name_of refused.NoSuchMustCall = codes "NoSuchMustCall"
name_of refused.BadAlias = codes "BadAlias"
name_of refused.BadOwningOverride = codes "BadOwningOverride"
name_of refused.NoFinalizer = codes "NoFinalizer"
name_of refused.OwningFieldShape = codes "OwningFieldShape"
name_of refused.BadReset = codes "BadReset"
name_of refused.SmallSet = codes "SmallSet"
name_of refused.FileTooBig = codes "FileTooBig"
name_of refused.TooDeep = codes "TooDeep"
name_of refused.TooManyClasses = codes "TooManyClasses"
name_of refused.MethodTooLarge = codes "MethodTooLarge"
name_of refused.TooManyPlaces = codes "TooManyPlaces"
name_of refused.TooManyFacts = codes "TooManyFacts"
name_of refused.TooManyFiles = codes "TooManyFiles"
name_of refused.TooMuchText = codes "TooMuchText"
name_of refused.TooManyNames = codes "TooManyNames"
name_of refused.TooManyFaults = codes "TooManyFaults"
name_of refused.BadToml = codes "BadToml"
name_of refused.BadKey = codes "BadKey"
name_of refused.BadVersion = codes "BadVersion"
name_of refused.BadChoices = codes "BadChoices"
name_of refused.NoMain = codes "NoMain"
name_of refused.BadCert = codes "BadCert"
name_of refused.CertOpen = codes "CertOpen"
name_of refused.CertTooBig = codes "CertTooBig"
name_of refused.BadScript = codes "BadScript"
name_of refused.TooManyEdits = codes "TooManyEdits"

-- a limit is passed, and no rule broken
abbrev pub is_limit : Code → Bool
is_limit refused.BadByte = false
is_limit refused.OpenComment = false
is_limit refused.OpenText = false
is_limit refused.BadLiteral = false
is_limit refused.LeftOutWord = false
is_limit refused.Syntax = false
is_limit refused.DoubleClass = false
is_limit refused.UnknownType = false
is_limit refused.CyclicSupers = false
is_limit refused.DoubleMember = false
is_limit refused.BadSuper = false
is_limit refused.NoSuchName = false
is_limit refused.NoSuchMethod = false
is_limit refused.Ambiguous = false
is_limit refused.Mismatch = false
is_limit refused.UndeclaredException = false
is_limit refused.BadOverride = false
is_limit refused.NotAbstract = false
is_limit refused.BadAnno = false
is_limit refused.NoSuchMustCall = false
is_limit refused.BadAlias = false
is_limit refused.BadOwningOverride = false
is_limit refused.NoFinalizer = false
is_limit refused.OwningFieldShape = false
is_limit refused.BadReset = false
is_limit refused.SmallSet = false
is_limit refused.FileTooBig = true
is_limit refused.TooDeep = true
is_limit refused.TooManyClasses = true
is_limit refused.MethodTooLarge = true
is_limit refused.TooManyPlaces = true
is_limit refused.TooManyFacts = true
is_limit refused.TooManyFiles = true
is_limit refused.TooMuchText = true
is_limit refused.TooManyNames = true
is_limit refused.TooManyFaults = true
is_limit refused.BadToml = false
is_limit refused.BadKey = false
is_limit refused.BadVersion = false
is_limit refused.BadChoices = false
is_limit refused.NoMain = false
is_limit refused.BadCert = false
is_limit refused.CertOpen = false
is_limit refused.CertTooBig = true
is_limit refused.BadScript = false
is_limit refused.TooManyEdits = true

-- how a layer stops by a refusal
abbrev pub stop_of : Refusal → Stop
stop_of r = if is_limit r.code then stops.TooMuch r else stops.Refused r
