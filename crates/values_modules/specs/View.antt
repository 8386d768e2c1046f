-- What is in a module in memory, and what is read of a block of targets.
use Rattle.std.specs.Prelude.{ℕ, List}
use Rattle.values_modules.specs.Values as v
use Rattle.values_modules.specs.Values.{Body, single, several}
use Rattle.values_modules.specs.declared.attributes.AttributeValue.{AttributeValue}
use Rattle.values_modules.specs.declared.attributes.AttributeValue.TheVariants.{Single, Several}
use Rattle.values_modules.specs.declared.attributes.Attribute.{Attribute}
use Rattle.values_modules.specs.declared.targets.Target.{Target}
use Rattle.values_modules.specs.declared.modules.Parts.{Parts}

abbrev pub body_of : Parts → Body
body_of p = record { label = p.label; path = p.path; own = p.own.items; loaded = p.loaded.items; functions = p.functions; defaults = p.defaults.items }

abbrev pub attribute_of : AttributeValue → v.Attribute
attribute_of (Single text) = single text.now
attribute_of (Several texts) = several texts

abbrev pub attributed_of : Attribute → List ℕ × v.Attribute
attributed_of a = (a.name.now, attribute_of a.value)

abbrev pub target_of : Target → v.Target
target_of t = record { kind = t.kind.now; name = t.name.now; attributes = t.attributes }
