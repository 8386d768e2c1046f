-- How the logic stores what is in a value.
pub use Rattle.values_modules.specs.Storage.{loaded_code}
