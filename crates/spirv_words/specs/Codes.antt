-- The number and the printed name of each code of a refused image.
use Rattle.std.specs.Prelude.{ℕ, List, codes}
use Rattle.spirv_words.specs.declared.faults.ImageCode.{ImageCode}
use Rattle.spirv_words.specs.declared.faults.ImageCode.TheVariants.{Short, Header, Opcode, Operands, Order, Ids, Types, Blocks, Calls, FileLimit}

abbrev pub code_number : ImageCode → ℕ
code_number Short = 401
code_number Header = 402
code_number Opcode = 403
code_number Operands = 404
code_number Order = 405
code_number Ids = 406
code_number Types = 407
code_number Blocks = 408
code_number Calls = 409
code_number FileLimit = 410

abbrev pub code_name : ImageCode → List ℕ
code_name Short = codes "Short"
code_name Header = codes "Header"
code_name Opcode = codes "Opcode"
code_name Operands = codes "Operands"
code_name Order = codes "Order"
code_name Ids = codes "Ids"
code_name Types = codes "Types"
code_name Blocks = codes "Blocks"
code_name Calls = codes "Calls"
code_name FileLimit = codes "FileLimit"
