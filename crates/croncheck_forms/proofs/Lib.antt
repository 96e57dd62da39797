mod Annotated
mod ExamplesAnnotations
mod ExamplesJson
mod ExamplesSarif
mod Objects
mod SarifLines
mod Sarifs
