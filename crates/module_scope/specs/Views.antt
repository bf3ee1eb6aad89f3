-- What contracts see of what is found, where a local is pointed to.
use Rattle.std.specs.Prelude.{Result, Ok, Err}
use Rattle.slang_names.specs.declared.codes.ModuleCode.{ModuleCode}
use Rattle.module_scope.specs.declared.names.Found.{Found as Pointed}
use Rattle.module_scope.specs.declared.names.Found.TheVariants as f
use Rattle.module_scope.specs.Sees.{Found, a_local, a_member, an_own}

-- what a name means
abbrev pub found_of : Pointed → Found
found_of (f.Local x) = a_local x.now
found_of (f.Member x) = a_member x
found_of (f.Own x) = an_own x

-- what is found, or the code
abbrev pub looked_up : Result Pointed ModuleCode → Result Found ModuleCode
looked_up (Ok x) = Ok (found_of x)
looked_up (Err code) = Err code
